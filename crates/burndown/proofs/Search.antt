-- What a search finds among totals that rise.
use Rattle.std.proofs.Common.{◌≡◌, ℕ, ◌≤◌, ℤ, pos, List, length, Result, Ok, Err, IfOk, IfErr, sym, ap, arith}
use Rattle.std.specs.List.Sorted.{IsSearchInRange, IsBinarySearchResult, IsNonDecreasingBy}
use Rattle.std.specs.Ordering.{nat_cmp, ordering_index}
use Rattle.std.proofs.lemmas.Cmp.{ranked}
use Rattle.std.proofs.lemmas.List.Sorted.{IsNonDecreasingBy-from_default}
use Rattle.std.proofs.lemmas.Bool.Decides.{nat_tests}
use Rattle.field_values.specs.declared.numbers.SprintNo.{SprintNo}
use Rattle.burndown.specs.Burndown.{sprint_at, IsRising, IsAt, IsGapFor}

module _ (ts : List (SprintNo × ℤ)) (rising : IsRising ts) (s : ℕ) where
  -- the comparisons with s rise along the list, as a binary search asks
  comparisons_rise : IsNonDecreasingBy (λ t. ordering_index (nat_cmp t.0.0 s)) ts
  comparisons_rise = IsNonDecreasingBy-from_default (λ t. ordering_index (nat_cmp t.0.0 s)) ts (record { 0 = 0 }, pos 0) (λ i j le in_range.
      let numbers_rise : sprint_at ts i ≤ sprint_at ts j = grind (arith, rising i j, λ (same : i ≡ j). ap (sprint_at ts) same) in
      grind (arith, nat_tests))

  pub found : (r : Result ℕ ℕ) → IsSearchInRange r (length ts) → IsBinarySearchResult (λ t. nat_cmp t.0.0 s) ts r → IfOk r (IsAt ts s)
  found (Ok i) in_range equal = record { in_range = in_range; is_it = ranked _ s _ (sym (equal (record { 0 = 0 }, pos 0))) }
  found (Err i) in_range parted = tt

  pub absent : (r : Result ℕ ℕ) → IsSearchInRange r (length ts) → IsBinarySearchResult (λ t. nat_cmp t.0.0 s) ts r → IfErr r (IsGapFor ts s)
  absent (Ok i) in_range equal = tt
  absent (Err i) in_range parted = record {
    in_range = in_range;
    smaller_before = λ j lt. ranked _ s _ (sym ((parted comparisons_rise).0 j (record { 0 = 0 }, pos 0) (omega arith) lt));
    greater_after = λ j le lt. ranked _ s _ (sym ((parted comparisons_rise).1 j (record { 0 = 0 }, pos 0) le lt));
  }
