-- One rank at most is chosen, and what is known of it.
use Rattle.std.proofs.Common.{◌≡◌, ℕ, zero, suc, ◌+◌, ◌<◌, ◌≤◌, ◌⊎◌, inl, inr, List, [], ◌∷◌, ◌++◌, length, map, Option, Some, None, refl, sym, ap, ◌∙◌, subst, arith}
use Rattle.std.proofs.lemmas.Bool.{cases_lt, cases_eq}
use Rattle.std.proofs.lemmas.Bool.Decides.{nat_tests}
use Rattle.std.proofs.lemmas.List.{length-map, length-append}
use Rattle.rank_strings.specs.Rank.{RankParts, IsRank}
use Rattle.rank_strings.specs.Text.{digit_code, rank_text}
use Rattle.rank_strings.specs.Between.{RanksGiven, IsShortest}
use Rattle.rank_strings.specs.Chosen.{number, greatest_number, least_above, greatest_below, below_rank, spaced_number, further_of, IsFinest, IsChosen, last_digit}
use Rattle.rank_strings.specs.Gap.{lowest_at, highest_at, padded, HasNoGapBefore}
use Rattle.rank_strings.proofs.Numbers.{number-injective}
use Rattle.rank_strings.proofs.Room.{behind_from_between}
use Rattle.rank_strings.proofs.Finest.{no_room_from_no_gap, any_shortest_in_gap}

same_parts : (a b : RankParts) → a.bucket ≡ b.bucket → a.front ≡ b.front → a.further ≡ b.further → a ≡ b
same_parts a b bucket front further = λ i. record { bucket = bucket i; front = front i; further = further i }

-- the first depth at which a digit fits, if there is one
pub record FitsAt (low high : List ℕ) (depth : ℕ) : Type 0 where
  pub none_before : HasNoGapBefore low high depth
  pub fits : lowest_at low depth ≤ highest_at high depth

first_fit : (low high : List ℕ) (n : ℕ) → HasNoGapBefore low high n ⊎ ((depth : ℕ) × (depth < n) × FitsAt low high depth)
first_fit low high zero = inl (λ k h. absurd (omega arith))
first_fit low high (suc n) = elim (first_fit low high n) [
  | inr found ↦ inr (found.0, omega (arith, found.1), found.2)
  | inl none ↦ elim (cases_lt (highest_at high n) (lowest_at low n)) [
    | inl less ↦ inl (λ k h. elim (cases_eq k n) [
      | inl is ↦ subst (λ m. highest_at high m < lowest_at low m) (sym is) less
      | inr other ↦ none k (omega arith)
    ])
    | inr fits ↦ inr (n, omega arith, record { none_before = none; fits = fits })
  ]
]

-- the shortest ranks between have the same digits but for the last
pub same_from_last : (low high : Option RankParts) (bucket : ℕ) → RanksGiven low high bucket → greatest_below high < least_above low →
    (a b : RankParts) → IsShortest low high bucket a → IsShortest low high bucket b → last_digit a ≡ last_digit b → a ≡ b
same_from_last low high bucket h none a b short_a short_b last =
    elim (first_fit (further_of low) (further_of high) 245) [
      | inl no_gap ↦ absurd (no_room_from_no_gap low high bucket h none no_gap a short_a.between)
      | inr found ↦
          let behind_a = behind_from_between low high bucket h none a short_a.between in
          let behind_b = behind_from_between low high bucket h none b short_b.between in
          let last_a = any_shortest_in_gap low high bucket found.0 h none found.1 found.2.none_before found.2.fits a short_a in
          let last_b = any_shortest_in_gap low high bucket found.0 h none found.1 found.2.none_before found.2.fits b short_b in
          same_parts a b
          (short_a.between.in_bucket ∙ sym short_b.between.in_bucket)
          (behind_a.front ∙ sym behind_b.front)
          (last_a.padded_last ∙ ap (λ d. padded found.0 (further_of low) ++ d ∷ []) last ∙ sym last_b.padded_last)
    ]

same_finest : (low high : Option RankParts) (bucket : ℕ) → RanksGiven low high bucket → greatest_below high < least_above low →
    (a b : RankParts) → IsFinest low high bucket a → IsFinest low high bucket b → a ≡ b
same_finest low high bucket h none a b fa fb =
    let la = fa.at_least fb.lowest fb.lowest_between in
    let lb = fb.at_least fa.lowest fa.lowest_between in
    let ha = fa.at_most fb.highest fb.highest_between in
    let hb = fb.at_most fa.highest fa.highest_between in
    let half_a = fa.half in
    let half_b = fb.half in
    same_from_last low high bucket h none a b fa.shortest fb.shortest (omega arith)

-- one rank at most is chosen
pub same_chosen : (low high : Option RankParts) (bucket : ℕ) → RanksGiven low high bucket →
    (a b : RankParts) → IsChosen low high bucket a → IsChosen low high bucket b → a ≡ b
same_chosen low high bucket h a b ca cb = elim (cases_lt (greatest_below high) (least_above low)) [
  | inl none ↦ same_finest low high bucket h none a b (ca.finest none) (cb.finest none)
  | inr some ↦
      let ka = ca.between.is_rank in
      let kb = cb.between.is_rank in
      let na = ca.spaced some in
      let nb = cb.spaced some in
      same_parts a b
      (ca.between.in_bucket ∙ sym cb.between.in_bucket)
      (number-injective a.front b.front ka.front_digits kb.front_digits (ka.front_length ∙ sym kb.front_length) (na.1 ∙ sym nb.1))
      (na.0 ∙ sym nb.0)
]

-- a rank of six digits alone has nine bytes
pub length-six : (r : RankParts) → IsRank r → r.further ≡ [] → length (rank_text r) ≡ 9
length-six r h alone =
    let front = length-map r.front digit_code in
    let six = h.front_length in
    let none : length (map digit_code r.further) ≡ 0 = rw alone refl in
    let both = length-append (map digit_code r.front) (58 ∷ map digit_code r.further) in
    omega arith

-- beside a lone low neighbour with room above
pub stepped_up : (low : RankParts) (bucket : ℕ) (r : RankParts) → number low.front + 8192 ≤ greatest_number → IsChosen (Some low) None bucket r →
    (number r.front ≡ number low.front + 8192) × (r.further ≡ []) × (length (rank_text r) ≡ 9)
stepped_up low bucket r room chosen =
    let spaced = chosen.spaced (omega arith) in
    let step : spaced_number (Some low) None ≡ number low.front + 8192 = grind (arith, nat_tests) in
    (spaced.1 ∙ step, spaced.0, length-six r chosen.between.is_rank spaced.0)

-- beside a lone high neighbour with room below
pub stepped_down : (high : RankParts) (bucket : ℕ) (r : RankParts) → 8192 < number high.front → IsChosen None (Some high) bucket r →
    (number r.front + 8192 ≡ number high.front) × (r.further ≡ []) × (length (rank_text r) ≡ 9)
stepped_down high bucket r room chosen = go high.further chosen.spaced
  where
    step : spaced_number None (Some high) + 8192 ≡ number high.front
    step = grind (arith, nat_tests)

    some : (ds : List ℕ) → 1 ≤ below_rank (number high.front) ds
    some [] = omega arith
    some (d ∷ ds) = omega arith

    go : (ds : List ℕ) → (1 ≤ greatest_below (Some high) → (r.further ≡ []) × (number r.front ≡ spaced_number None (Some high))) →
        (number r.front + 8192 ≡ number high.front) × (r.further ≡ []) × (length (rank_text r) ≡ 9)
    go ds spaced =
        let is = spaced (some high.further) in
        (ap (λ n. n + 8192) is.1 ∙ step, is.0, length-six r chosen.between.is_rank is.0)
