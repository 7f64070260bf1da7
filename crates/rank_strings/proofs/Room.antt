-- Where no six digits alone lie between, the ranks between are those whose further digits fit behind the low neighbour's six.
use Rattle.std.proofs.Common.{◌≡◌, ◌≢◌, ℕ, ◌+◌, ◌<◌, ◌≤◌, inl, inr, List, [], ◌∷◌, Option, Some, None, refl, sym, ◌∙◌, arith}
use Rattle.std.specs.declared.cmp.Ordering.TheVariants.{Less}
use Rattle.std.specs.Ordering.{nat_cmp}
use Rattle.std.specs.Option.{IfSome}
use Rattle.std.specs.Cmp.Lexicographic.{slice_cmp}
use Rattle.rank_strings.specs.Rank.{RankParts, IsRank, IsBelow}
use Rattle.rank_strings.specs.Between.{RanksGiven, LiesBetween}
use Rattle.rank_strings.specs.Chosen.{number, least_above, greatest_below, below_rank, front_of, further_of}
use Rattle.rank_strings.proofs.Numbers.{number-injective, number-at_most, number-zero}
use Rattle.rank_strings.proofs.Fitting.{IsBelowEnd, FitsBetween, not_less-nil}
use Rattle.rank_strings.proofs.Neighbours.{below-cases}

-- how the number of a rank between stands to the neighbours' numbers
least-number : (low : Option RankParts) (bucket : ℕ) → IfSome low IsRank → IfSome low (λ l. l.bucket ≡ bucket) →
    (r : RankParts) → IsRank r → r.bucket ≡ bucket → IfSome low (λ l. IsBelow l r) → least_above low ≤ number r.front + 1
least-number None bucket h e r k b above = omega arith
least-number (Some l) bucket h e r k b above =
    elim (below-cases l r h k (e ∙ sym b) above) [ inl less ↦ omega arith | inr same ↦ omega (arith, same.0) ]

greatest-number : (high : Option RankParts) (bucket : ℕ) → IfSome high IsRank → IfSome high (λ h. h.bucket ≡ bucket) →
    (r : RankParts) → IsRank r → r.bucket ≡ bucket → IfSome high (λ h. IsBelow r h) → number r.front ≤ greatest_below high
greatest-number None bucket h e r k b below = number-at_most r.front k.front_digits k.front_length
greatest-number (Some high) bucket h e r k b below = go high.further refl
  where
    go : (ds : List ℕ) → high.further ≡ ds → number r.front ≤ below_rank (number high.front) high.further
    go [] is = rw is (elim (below-cases r high k h (b ∙ sym e) below) [
      | inl less ↦ omega arith
      | inr same ↦ absurd (not_less-nil r.further (rw is at same.1))
    ])
    go (d ∷ ds) is = rw is (elim (below-cases r high k h (b ∙ sym e) below) [
      | inl less ↦ omega arith
      | inr same ↦ omega (arith, same.0)
    ])

-- so it is the number of the six digits that are named
front-forced : (low : Option RankParts) → IfSome low IsRank → (r : RankParts) → IsRank r →
    least_above low ≡ number r.front + 1 → r.front ≡ front_of low
front-forced None h r k e = number-zero r.front k.front_digits k.front_length (omega arith)
front-forced (Some l) h r k e =
    number-injective r.front l.front k.front_digits h.front_digits (k.front_length ∙ sym h.front_length) (omega arith)

nil_less : (ds : List ℕ) → ds ≢ [] → slice_cmp nat_cmp [] ds ≡ Less
nil_less [] h = absurd (h refl)
nil_less (d ∷ ds) h = refl

further-above : (low : Option RankParts) (bucket : ℕ) → IfSome low IsRank → IfSome low (λ l. l.bucket ≡ bucket) →
    (r : RankParts) → IsRank r → r.bucket ≡ bucket → least_above low ≡ number r.front + 1 → IfSome low (λ l. IsBelow l r) →
    slice_cmp nat_cmp (further_of low) r.further ≡ Less
further-above None bucket h e r k b is above =
    nil_less r.further (λ alone. k.not_zero alone (number-zero r.front k.front_digits k.front_length (omega arith)))
further-above (Some l) bucket h e r k b is above =
    elim (below-cases l r h k (e ∙ sym b) above) [ inl less ↦ absurd (omega arith) | inr same ↦ same.1 ]

further-below : (high : Option RankParts) (bucket : ℕ) → IfSome high IsRank → IfSome high (λ h. h.bucket ≡ bucket) →
    (r : RankParts) → IsRank r → r.bucket ≡ bucket → greatest_below high ≤ number r.front → IfSome high (λ h. IsBelow r h) →
    IsBelowEnd (further_of high) r.further
further-below None bucket h e r k b is below = tt
further-below (Some high) bucket h e r k b is below = go high.further refl
  where
    go : (ds : List ℕ) → high.further ≡ ds → IsBelowEnd high.further r.further
    go [] same = rw same tt
    go (d ∷ ds) same =
        let most : number high.front ≤ number r.front = rw same at is in
        rw same (elim (below-cases r high k h (b ∙ sym e) below) [
          | inl less ↦ absurd (omega arith)
          | inr equal ↦ rw same at equal.1
        ])

-- what is known of a rank between where no six digits alone are
pub record IsBehind (low high : Option RankParts) (r : RankParts) : Type 0 where
  pub front : r.front ≡ front_of low
  pub fits : FitsBetween (further_of low) (further_of high) r.further

pub behind_from_between : (low high : Option RankParts) (bucket : ℕ) → RanksGiven low high bucket →
    greatest_below high < least_above low → (r : RankParts) → LiesBetween low high bucket r → IsBehind low high r
behind_from_between low high bucket h none r between =
    let n = h.neighbours in
    let k = between.is_rank in
    let least = least-number low bucket h.low_rank n.low_in_bucket r k between.in_bucket between.above_low in
    let most = greatest-number high bucket h.high_rank n.high_in_bucket r k between.in_bucket between.below_high in
    let is : least_above low ≡ number r.front + 1 = omega arith in
    let top : greatest_below high ≤ number r.front = omega arith in
    record {
      front = front-forced low h.low_rank r k is;
      fits = record {
        digits = k.further_digits;
        no_last_zero = k.no_last_zero;
        above = further-above low bucket h.low_rank n.low_in_bucket r k between.in_bucket is between.above_low;
        below = further-below high bucket h.high_rank n.high_in_bucket r k between.in_bucket top between.below_high;
      };
    }
