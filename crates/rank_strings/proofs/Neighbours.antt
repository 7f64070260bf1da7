-- Ranks of one bucket by the number of their six digits and by their further digits.
use Rattle.std.proofs.Common.{◌≡◌, ℕ, ◌-◌, ◌<◌, ◌≤◌, ◌⊎◌, inl, inr, List, [], ◌∷◌, length, Option, Some, None, refl, sym, ap, ◌∙◌, lit<, lit≤, arith}
use Rattle.std.proofs.lemmas.Bool.{cases_lt, cases_eq}
use Rattle.std.proofs.lemmas.Cmp.{ranked, by_ranked}
use Rattle.std.proofs.lemmas.List.Elements.{All-nil}
use Rattle.std.specs.declared.cmp.Ordering.{Ordering}
use Rattle.std.specs.declared.cmp.Ordering.TheVariants.{Less, Equal}
use Rattle.std.specs.Ordering.{nat_cmp, ordering_then}
use Rattle.std.specs.Option.{IfSome}
use Rattle.std.specs.Cmp.Lexicographic.{slice_cmp}
use Rattle.rank_strings.specs.Rank.{RankParts, IsRank, AreDigits, rank_cmp, IsBelow}
use Rattle.rank_strings.specs.Between.{LiesBetween, RanksGiven}
use Rattle.rank_strings.specs.Chosen.{number, least_above, greatest_below}
use Rattle.rank_strings.proofs.Order.{nat_cmp-less, nat_cmp-same, rank_cmp-parts}
use Rattle.rank_strings.proofs.Numbers.{slice_cmp-number_after, number-zero}

-- in one bucket the numbers of the six digits are compared first
rank_cmp-numbers : (a b : RankParts) → IsRank a → IsRank b → a.bucket ≡ b.bucket →
    rank_cmp a b ≡ ordering_then (nat_cmp (number a.front) (number b.front)) (slice_cmp nat_cmp a.further b.further)
rank_cmp-numbers a b h k e =
    let bucket : nat_cmp a.bucket b.bucket ≡ Equal = ap (nat_cmp a.bucket) (sym e) ∙ nat_cmp-same a.bucket in
    let front : slice_cmp nat_cmp a.front b.front ≡ nat_cmp (number a.front) (number b.front) =
    slice_cmp-number_after 0 a.front b.front h.front_digits k.front_digits (h.front_length ∙ sym k.front_length) in
    sym (rank_cmp-parts a b h k)
    ∙ ap (λ (o : Ordering). ordering_then (ordering_then o (slice_cmp nat_cmp a.front b.front)) (slice_cmp nat_cmp a.further b.further)) bucket
    ∙ ap (λ (o : Ordering). ordering_then o (slice_cmp nat_cmp a.further b.further)) front

pub below-cases : (a b : RankParts) → IsRank a → IsRank b → a.bucket ≡ b.bucket → IsBelow a b →
    (number a.front < number b.front) ⊎ ((number a.front ≡ number b.front) × (slice_cmp nat_cmp a.further b.further ≡ Less))
below-cases a b h k e below =
    let m = number a.front in
    let n = number b.front in
    let both : ordering_then (nat_cmp m n) (slice_cmp nat_cmp a.further b.further) ≡ Less = sym (rank_cmp-numbers a b h k e) ∙ below in
    by_ranked (m < n) (m ≡ n) (n < m) (nat_cmp m n) (ranked m n (nat_cmp m n) refl)
    (λ is less. inl less)
    (λ is same. inr (same, rw is at both))
    (λ is more. absurd (let both' = rw is at both in cc))

pub below-number : (a b : RankParts) → IsRank a → IsRank b → a.bucket ≡ b.bucket → number a.front < number b.front → IsBelow a b
below-number a b h k e less =
    rank_cmp-numbers a b h k e
    ∙ ap (λ (o : Ordering). ordering_then o (slice_cmp nat_cmp a.further b.further)) (nat_cmp-less (number a.front) (number b.front) less)

pub below-further : (a b : RankParts) → IsRank a → IsRank b → a.bucket ≡ b.bucket → number a.front ≡ number b.front →
    slice_cmp nat_cmp a.further b.further ≡ Less → IsBelow a b
below-further a b h k e same less =
    rank_cmp-numbers a b h k e
    ∙ ap (λ (n : ℕ). ordering_then (nat_cmp (number a.front) n) (slice_cmp nat_cmp a.further b.further)) (sym same)
    ∙ ap (λ (o : Ordering). ordering_then o (slice_cmp nat_cmp a.further b.further)) (nat_cmp-same (number a.front))
    ∙ less

-- a rank with six digits alone has a number above 0
pub number-positive : (r : RankParts) → IsRank r → r.further ≡ [] → 0 < number r.front
number-positive r h alone =
    elim (cases_eq (number r.front) 0) [
      | inl is ↦ absurd (h.not_zero alone (number-zero r.front h.front_digits h.front_length is))
      | inr other ↦ omega arith
    ]

-- six digits alone, by their number
above_low-spaced : (low : Option RankParts) (bucket : ℕ) → IfSome low IsRank → IfSome low (λ l. l.bucket ≡ bucket) →
    (r : RankParts) → IsRank r → r.bucket ≡ bucket → least_above low ≤ number r.front → IfSome low (λ l. IsBelow l r)
above_low-spaced None bucket h e r k b least = tt
above_low-spaced (Some l) bucket h e r k b least = below-number l r h k (e ∙ sym b) (omega arith)

below_high-spaced : (high : Option RankParts) (bucket : ℕ) → IfSome high IsRank → IfSome high (λ h. h.bucket ≡ bucket) →
    (r : RankParts) → IsRank r → r.bucket ≡ bucket → r.further ≡ [] → number r.front ≤ greatest_below high → IfSome high (λ h. IsBelow r h)
below_high-spaced None bucket h e r k b alone most = tt
below_high-spaced (Some high) bucket h e r k b alone most = go high.further refl
  where
    go : (ds : List ℕ) → high.further ≡ ds → IsBelow r high
    go [] is =
        let most' : number r.front ≤ number high.front - 1 = rw is at most in
        below-number r high k h (b ∙ sym e) (omega (arith, number-positive high h is))
    go (d ∷ ds) is =
        let most' : number r.front ≤ number high.front = rw is at most in
        let further : slice_cmp nat_cmp r.further high.further ≡ Less = rw (alone, is) refl in
        elim (cases_lt (number r.front) (number high.front)) [
          | inl less ↦ below-number r high k h (b ∙ sym e) less
          | inr more ↦ below-further r high k h (b ∙ sym e) (omega arith) further
        ]

pub spaced_between : (low high : Option RankParts) (bucket : ℕ) → RanksGiven low high bucket → (front : List ℕ) →
    AreDigits front → length front ≡ 6 → least_above low ≤ number front → number front ≤ greatest_below high → 1 ≤ number front →
    LiesBetween low high bucket (record { bucket = bucket; front = front; further = [] })
spaced_between low high bucket h front digits six least most one =
    let r : RankParts = record { bucket = bucket; front = front; further = [] } in
    let rank : IsRank r = record {
      in_circle = h.neighbours.in_circle;
      front_digits = digits;
      front_length = six;
      further_digits = All-nil (λ d. d < 36);
      further_length = lit≤ tt;
      no_last_zero = lit< tt;
      not_zero = λ _ zeros. let none : number front ≡ 0 = ap number zeros in omega arith;
    } in
    record {
      is_rank = rank;
      in_bucket = refl;
      above_low = above_low-spaced low bucket h.low_rank h.neighbours.low_in_bucket r rank refl least;
      below_high = below_high-spaced high bucket h.high_rank h.neighbours.high_in_bucket r rank refl refl most;
    }
