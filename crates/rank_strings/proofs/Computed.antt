-- The rank that is computed is the chosen one, and none is where no rank lies between.
use Rattle.std.proofs.Common.{◌≡◌, ℕ, zero, suc, ◌+◌, ◌/◌, ◌%◌, ◌<◌, ◌≤◌, ◌⊎◌, true, false, inl, inr, List, [], ◌∷◌, ◌++◌, drop, Option, Some, None, refl, sym, ap, subst, arith}
use Rattle.std.specs.Prelude.{MatchOption, option_map, nat_le, slice_index}
use Rattle.std.proofs.lemmas.Bool.{cases_Bool}
use Rattle.std.proofs.lemmas.Bool.Decides.{nat_tests}
use Rattle.std.proofs.lemmas.List.Elements.{All-cons, All-nil}
use Rattle.rank_strings.specs.Rank.{RankParts, AreDigits}
use Rattle.rank_strings.specs.declared.fault.RankFault.{RankFault}
use Rattle.rank_strings.specs.declared.fault.RankFault.TheVariants.{Exhausted, Memory}
use Rattle.rank_strings.specs.Between.{RanksGiven, HasNoRoom}
use Rattle.rank_strings.specs.Chosen.{number, greatest_number, least_above, greatest_below, spaced_number, further_of, IsChosen}
use Rattle.rank_strings.specs.Gap.{lowest_at, highest_at, padded, HasNoGapBefore}
use Rattle.rank_strings.specs.Choice.{six_digits, further_between, rank_behind, chosen_between}
use Rattle.rank_strings.specs.NoRoom.{ExplainsFault, IsNoneFor}
use Rattle.rank_strings.proofs.Fitting.{shifted_lowest, shifted_highest}
use Rattle.rank_strings.proofs.InRange.{spaced-in_range, chosen_by_number}
use Rattle.rank_strings.proofs.Finest.{no_room_from_no_gap, chosen_in_gap}
use Rattle.rank_strings.proofs.Unique.{same_chosen}

six : (a b c d e f : ℕ) → a < 36 → b < 36 → c < 36 → d < 36 → e < 36 → f < 36 → AreDigits (a ∷ b ∷ c ∷ d ∷ e ∷ f ∷ [])
six a b c d e f ha hb hc hd he hf =
    let P : ℕ → Type 0 = λ d. d < 36 in
    All-cons P a (b ∷ c ∷ d ∷ e ∷ f ∷ []) ha (All-cons P b (c ∷ d ∷ e ∷ f ∷ []) hb (All-cons P c (d ∷ e ∷ f ∷ []) hc
    (All-cons P d (e ∷ f ∷ []) hd (All-cons P e (f ∷ []) he (All-cons P f [] hf (All-nil P))))))

six_digits-digits : (n : ℕ) → n ≤ greatest_number → AreDigits (six_digits n)
six_digits-digits n most =
    six (n / 36 / 36 / 36 / 36 / 36) (n / 36 / 36 / 36 / 36 % 36) (n / 36 / 36 / 36 % 36) (n / 36 / 36 % 36) (n / 36 % 36) (n % 36)
    (omega arith) (omega arith) (omega arith) (omega arith) (omega arith) (omega arith)

number-six_digits : (n : ℕ) → n ≤ greatest_number → number (six_digits n) ≡ n
number-six_digits n most = omega arith

-- further digits with their last one in the first gap
record IsInFirstGap (low high : List ℕ) (room : ℕ) (ds : List ℕ) : Type 0 where
  depth : ℕ
  digit : ℕ
  in_room : depth < room
  none_before : HasNoGapBefore low high depth
  fits : lowest_at low depth ≤ highest_at high depth
  halfway : digit ≡ (lowest_at low depth + highest_at high depth) / 2
  is : ds ≡ padded depth low ++ digit ∷ []

grown_none : (low high : List ℕ) (n : ℕ) → highest_at high 0 < lowest_at low 0 → HasNoGapBefore (drop 1 low) (drop 1 high) n →
    HasNoGapBefore low high (suc n)
grown_none low high n here rest zero lt = here
grown_none low high n here rest (suc k) lt = rw (← shifted_lowest low k, ← shifted_highest high k) (rest k (omega arith))

further_found : (room : ℕ) (low high : List ℕ) →
    MatchOption (further_between room low high) (HasNoGapBefore low high room) (IsInFirstGap low high room)
unfolding further_between
further_found zero low high = λ k lt. absurd (omega arith)
further_found (suc room) low high = by (cases_Bool (nat_le (lowest_at low 0) (highest_at high 0))) (further_found room (drop 1 low) (drop 1 high))
  where
    behind : highest_at high 0 < lowest_at low 0 → (found : Option (List ℕ)) →
        MatchOption found (HasNoGapBefore (drop 1 low) (drop 1 high) room) (IsInFirstGap (drop 1 low) (drop 1 high) room) →
        MatchOption (option_map (λ (ds : List ℕ). slice_index low 0 ∷ ds) found) (HasNoGapBefore low high (suc room)) (IsInFirstGap low high (suc room))
    behind here None none = grown_none low high room here none
    behind here (Some ds) gap = record {
      depth = suc gap.depth;
      digit = gap.digit;
      in_room = let lt = gap.in_room in omega arith;
      none_before = grown_none low high gap.depth here gap.none_before;
      fits = rw (← shifted_lowest low gap.depth, ← shifted_highest high gap.depth) gap.fits;
      halfway = rw (← shifted_lowest low gap.depth, ← shifted_highest high gap.depth) gap.halfway;
      is = ap (λ (xs : List ℕ). slice_index low 0 ∷ xs) gap.is;
    }

    by : (nat_le (lowest_at low 0) (highest_at high 0) ≡ true) ⊎ (nat_le (lowest_at low 0) (highest_at high 0) ≡ false) →
        MatchOption (further_between room (drop 1 low) (drop 1 high)) (HasNoGapBefore (drop 1 low) (drop 1 high) room) (IsInFirstGap (drop 1 low) (drop 1 high) room) →
        MatchOption (further_between (suc room) low high) (HasNoGapBefore low high (suc room)) (IsInFirstGap low high (suc room))
    by (inl test) rest =
        let fits : lowest_at low 0 ≤ highest_at high 0 = grind (arith, nat_tests) in
        rw test (record { depth = 0; digit = (lowest_at low 0 + highest_at high 0) / 2; in_room = omega arith; none_before = λ k lt. absurd (omega arith); fits = fits; halfway = refl; is = refl })
    by (inr test) rest =
        let here : highest_at high 0 < lowest_at low 0 = grind (arith, nat_tests) in
        rw test (behind here (further_between room (drop 1 low) (drop 1 high)) rest)

module _ (low high : Option RankParts) (bucket : ℕ) (given : RanksGiven low high bucket) where
  behind_front : greatest_below high < least_above low → (found : Option (List ℕ)) →
      MatchOption found (HasNoGapBefore (further_of low) (further_of high) 245) (IsInFirstGap (further_of low) (further_of high) 245) →
      MatchOption (option_map (rank_behind low bucket) found) (HasNoRoom low high bucket) (IsChosen low high bucket)
  behind_front none None no_gap = no_room_from_no_gap low high bucket given none no_gap
  behind_front none (Some ds) gap =
      subst (λ (xs : List ℕ). IsChosen low high bucket (rank_behind low bucket xs)) (sym gap.is)
      (chosen_in_gap low high bucket gap.depth gap.digit given none
      (record { in_room = gap.in_room; none_before = gap.none_before; fits = gap.fits; halfway = gap.halfway }))

  pub chosen_is_computed : MatchOption (chosen_between low high bucket) (HasNoRoom low high bucket) (IsChosen low high bucket)
  unfolding chosen_between
  chosen_is_computed = by (cases_Bool (nat_le (least_above low) (greatest_below high)))
    where
      by : (nat_le (least_above low) (greatest_below high) ≡ true) ⊎ (nat_le (least_above low) (greatest_below high) ≡ false) →
          MatchOption (chosen_between low high bucket) (HasNoRoom low high bucket) (IsChosen low high bucket)
      by (inl test) =
          let some : least_above low ≤ greatest_below high = grind (arith, nat_tests) in
          let fits = (spaced-in_range low high bucket given some).fits in
          let n = spaced_number low high in
          rw test (chosen_by_number low high bucket given some (six_digits n) (six_digits-digits n fits) refl (number-six_digits n fits))
      by (inr test) =
          let none : greatest_below high < least_above low = grind (arith, nat_tests) in
          rw test (behind_front none (further_between 245 (further_of low) (further_of high)) (further_found 245 (further_of low) (further_of high)))

  pub chosen_alone : (r : RankParts) → IsChosen low high bucket r → chosen_between low high bucket ≡ Some r
  chosen_alone r is = by (chosen_between low high bucket) chosen_is_computed
    where
      by : (found : Option RankParts) → MatchOption found (HasNoRoom low high bucket) (IsChosen low high bucket) → found ≡ Some r
      by None none = absurd (none r is.between)
      by (Some s) chosen = ap Some (same_chosen low high bucket given s r chosen is)

  pub none_without_room : HasNoRoom low high bucket → chosen_between low high bucket ≡ None
  none_without_room none = by (chosen_between low high bucket) chosen_is_computed
    where
      by : (found : Option RankParts) → MatchOption found (HasNoRoom low high bucket) (IsChosen low high bucket) → found ≡ None
      by None closed = refl
      by (Some s) chosen = absurd (none s chosen.between)

  pub none_unless_memory : (fault : RankFault) → ExplainsFault low high bucket fault → IsNoneFor (chosen_between low high bucket) fault
  none_unless_memory (Exhausted l h) explained = none_without_room explained.2
  none_unless_memory Memory explained = tt
