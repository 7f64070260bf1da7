-- What a search finds among rows whose numbers rise.
use Rattle.std.proofs.Common.{◌≡◌, ℕ, ◌≤◌, List, length, Result, Ok, Err, IfOk, IfErr, sym, ap, arith}
use Rattle.std.specs.List.Sorted.{IsSearchInRange, IsBinarySearchResult, IsNonDecreasingBy}
use Rattle.std.specs.Ordering.{nat_cmp, ordering_index}
use Rattle.std.proofs.lemmas.Cmp.{ranked}
use Rattle.std.proofs.lemmas.List.Sorted.{IsNonDecreasingBy-from_default}
use Rattle.std.proofs.lemmas.Bool.Decides.{nat_tests}
use Rattle.filter_views.specs.RowParts.{RowParts}
use Rattle.filter_views.specs.FilterRow.{no_row, filter_at, AreRising, IsAt, IsGapFor}

module _ (rs : List RowParts) (rising : AreRising rs) (f : ℕ) where
  -- the comparisons with f rise along the list, as a binary search asks
  comparisons_rise : IsNonDecreasingBy (λ r. ordering_index (nat_cmp r.filter f)) rs
  comparisons_rise = IsNonDecreasingBy-from_default (λ r. ordering_index (nat_cmp r.filter f)) rs no_row (λ i j le in_range.
      let numbers_rise : filter_at rs i ≤ filter_at rs j = grind (arith, rising i j, λ (same : i ≡ j). ap (filter_at rs) same) in
      grind (arith, nat_tests))

  pub found : (r : Result ℕ ℕ) → IsSearchInRange r (length rs) → IsBinarySearchResult (λ r. nat_cmp r.filter f) rs r → IfOk r (IsAt rs f)
  found (Ok i) in_range equal = record { in_range = in_range; is_it = ranked _ f _ (sym (equal no_row)) }
  found (Err i) in_range parted = tt

  pub absent : (r : Result ℕ ℕ) → IsSearchInRange r (length rs) → IsBinarySearchResult (λ r. nat_cmp r.filter f) rs r → IfErr r (IsGapFor rs f)
  absent (Ok i) in_range equal = tt
  absent (Err i) in_range parted = record {
    in_range = in_range;
    smaller_before = λ j lt. ranked _ f _ (sym ((parted comparisons_rise).0 j no_row (omega arith) lt));
    greater_after = λ j le lt. ranked _ f _ (sym ((parted comparisons_rise).1 j no_row le lt));
  }
