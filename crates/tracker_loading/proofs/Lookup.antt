-- A row is looked up among rows in order.
use Rattle.std.proofs.Common.{◌≡◌, ℕ, zero, suc, ◌<◌, ◌≤◌, ◌⊎◌, inl, inr, true, false, List, [], ◌∷◌, ◌++◌, length, slice_get, take, drop, Option, Some, None, All, refl, sym, ap, ◌∙◌, subst, arith}
use Rattle.std.specs.Prelude.{slice_index_or}
use Rattle.std.specs.List.Sorted.{IsPartitionedBy}
use Rattle.std.proofs.lemmas.Bool.{cases_lt, cases_eq, cases_Bool}
use Rattle.std.proofs.lemmas.Bool.Decides.{nat_tests}
use Rattle.std.proofs.lemmas.List.{get_or-take, length-take}
use Rattle.std.proofs.lemmas.List.Elements.{All-head, All-tail, All-weaker}
use Rattle.std.proofs.lemmas.Option.{none-some, same_Some, slice_get_within}
use Rattle.tracker_keeper.specs.declared.row.Row.{Row}
use Rattle.tracker_keeper.specs.Rows.{IsBelow, found}
use Rattle.tracker_rows.specs.Listed.{InOrder, IsAhead, HasRow}
use Rattle.tracker_loading.specs.Reading.{StandsAt, is_of, stands_before, IsFrontBefore}
use Rattle.tracker_loading.proofs.Order.{drop_at_row, apart_at, ahead_of_all}

-- ---- where it isn't

past_others : (front back : List Row) (k n : ℕ) → All (λ row. is_of k n row ≡ false) front → found (front ++ back) k n ≡ found back k n
past_others [] back k n none = refl
past_others (row ∷ front) back k n none =
    rw (All-head (λ r. is_of k n r ≡ false) row front none) (past_others front back k n (All-tail (λ r. is_of k n r ≡ false) row front none))

not_found : (rows : List Row) (k n : ℕ) → All (λ row. is_of k n row ≡ false) rows → found rows k n ≡ None
not_found [] k n none = refl
not_found (row ∷ rows) k n none =
    rw (All-head (λ r. is_of k n r ≡ false) row rows none) (not_found rows k n (All-tail (λ r. is_of k n r ≡ false) row rows none))

before_is_other : (k n : ℕ) (row : Row) → stands_before k n row ≡ true → is_of k n row ≡ false
before_is_other k n row before = grind (arith, nat_tests)

ahead_is_other : (k n : ℕ) (row : Row) → IsAhead k n row → is_of k n row ≡ false
ahead_is_other k n row (inl less) = grind (arith, nat_tests, less)
ahead_is_other k n row (inr is) = grind (arith, nat_tests, is.0, is.1)

-- a row that doesn't stand before that place and isn't there is behind it
behind_it : (k n : ℕ) (row : Row) → stands_before k n row ≡ false → is_of k n row ≡ false → IsAhead k n row
behind_it k n row not_before other = by (cases_lt k row.kind) (cases_eq k row.kind) (cases_lt n row.no)
  where
    by : (k < row.kind) ⊎ (row.kind ≤ k) → (k ≡ row.kind) ⊎ (k ≡ row.kind → ⊥) → (n < row.no) ⊎ (row.no ≤ n) → IsAhead k n row
    by (inl less) kinds numbers = inl less
    by (inr le) (inl same) (inl less) = inr (same, less)
    by (inr le) (inl same) (inr ge) = grind (arith, nat_tests, not_before, other, same, ge)
    by (inr le) (inr differ) numbers = grind (arith, nat_tests, not_before, differ, le)

-- ---- where it is

some_body : (body : List ℕ) → ◌≡◌ {A = Option (List ℕ)} (Some body) None → ⊥
some_body body is = absurd (cc)

module _ (rows : List Row) (k n place : ℕ) (ordered : InOrder rows) (front : IsFrontBefore rows k n place) where
  front_other : All (λ row. is_of k n row ≡ false) (take place rows)
  front_other = λ j d within.
      let less : j < place = omega (arith, length-take place rows, within) in
      subst (λ (r : Row). is_of k n r ≡ false) (sym (get_or-take place rows j d less))
      (before_is_other k n (slice_index_or rows j d) (front.point.0 j d (omega arith) less))

  -- of the row at the place
  module _ (row : Row) (there : StandsAt rows place row) where
    found_there : found rows k n ≡ found (row ∷ drop (suc place) rows) k n
    found_there =
        ap (λ (list : List Row). found list k n) (apart_at rows place row there)
        ∙ past_others (take place rows) (row ∷ drop (suc place) rows) k n front_other

    pub has_row : is_of k n row ≡ true → HasRow rows k n
    has_row is none = some_body row.body (rw is at (sym found_there ∙ none))

    not_before : stands_before k n row ≡ false
    not_before =
        let within : place < length rows = slice_get_within rows place row there in
        subst (λ (r : Row). stands_before k n r ≡ false) (at_place rows place there)
        (front.point.1 place row (omega arith) within)
      where
        at_place : (list : List Row) (j : ℕ) → slice_get list j ≡ Some row → slice_index_or list j row ≡ row
        at_place [] j is = refl
        at_place (x ∷ list) zero is = same_Some x row is
        at_place (x ∷ list) (suc j) is = at_place list j is

    pub no_row : is_of k n row ≡ false → HasRow rows k n → ⊥
    no_row other has =
        has (found_there ∙ rw other (not_found (drop (suc place) rows) k n
        (All-weaker (IsAhead k n) (λ r. is_of k n r ≡ false) (λ r ahead. ahead_is_other k n r ahead) (drop (suc place) rows)
        (All-tail (IsAhead k n) row (drop (suc place) rows)
        (subst (All (IsAhead k n)) (drop_at_row rows place row there)
        (ahead_of_all rows place row k n ordered there (behind_it k n row not_before other)))))))

  pub no_row_past : slice_get rows place ≡ None → HasRow rows k n → ⊥
  no_row_past none has = has (not_found rows k n (subst (All (λ r. is_of k n r ≡ false)) (all_front rows place none) front_other))
    where
      all_front : (list : List Row) (j : ℕ) → slice_get list j ≡ None → take j list ≡ list
      all_front [] zero is = refl
      all_front [] (suc j) is = refl
      all_front (x ∷ list) zero is = absurd (none-some x (sym is))
      all_front (x ∷ list) (suc j) is = ap (λ (l : List Row). x ∷ l) (all_front list j is)

-- ---- the order parts rows

pub parted : (rows : List Row) (k n : ℕ) → InOrder rows → IsPartitionedBy (stands_before k n) rows
parted rows k n ordered i j d le within before = by (cases_lt i j)
  where
    by : (i < j) ⊎ (j ≤ i) → stands_before k n (slice_index_or rows i d) ≡ true
    by (inr ge) = let same : j ≡ i = omega (arith, le, ge) in subst (λ (x : ℕ). stands_before k n (slice_index_or rows x d) ≡ true) same before
    by (inl less) = earlier (slice_index_or rows i d) (slice_index_or rows j d) (ordered i j d less within) before
      where
        below : (k n : ℕ) (one other : Row) → stands_before k n one ≡ false → stands_before k n other ≡ true → IsBelow other one
        below k n one other none is = by_kind (cases_lt other.kind one.kind) (cases_eq other.kind one.kind) (cases_lt other.no one.no)
          where
            by_kind : (other.kind < one.kind) ⊎ (one.kind ≤ other.kind) → (other.kind ≡ one.kind) ⊎ (other.kind ≡ one.kind → ⊥)
                → (other.no < one.no) ⊎ (one.no ≤ other.no) → IsBelow other one
            by_kind (inl less) kinds numbers = inl less
            by_kind (inr le) (inl same) (inl less) = inr (same, less)
            by_kind (inr le) (inl same) (inr ge) = grind (arith, nat_tests, none, is, same, ge)
            by_kind (inr le) (inr differ) numbers = grind (arith, nat_tests, none, is, le, differ)

        earlier : (one other : Row) → (IsBelow other one → ⊥) → stands_before k n other ≡ true → stands_before k n one ≡ true
        earlier one other not_below is = by_order (cases_Bool (stands_before k n one))
          where
            by_order : (stands_before k n one ≡ true) ⊎ (stands_before k n one ≡ false) → stands_before k n one ≡ true
            by_order (inl so) = so
            by_order (inr none) = absurd (not_below (below k n one other none is))
