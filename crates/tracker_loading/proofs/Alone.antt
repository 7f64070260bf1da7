-- A row stands alone where neither the row before it nor the one behind it has its kind and number.
use Rattle.std.proofs.Common.{◌≡◌, ℕ, zero, suc, ◌+◌, ◌-◌, ◌<◌, ◌≤◌, ◌==◌, ◌&&◌, ◌||◌, ◌⊎◌, inl, inr, Bool, true, false, nat_lt, List, [], ◌∷◌, ◌++◌, slice_get, take, drop, Option, Some, None, All, count_by, refl, sym, ap, ◌∙◌, subst, arith, eqb-true, eq-eqb}
use Rattle.std.specs.Prelude.{cond, slice_index_or}
use Rattle.std.specs.Option.{option_map_or}
use Rattle.std.proofs.lemmas.Bool.{cases_lt, cases_Bool, and_parts, lt-ltb, true≢false, false≢true}
use Rattle.std.proofs.lemmas.List.Sums.{sum_by-cons}
use Rattle.std.proofs.lemmas.List.Elements.{All-nil, All-append, All-cons, All-head, All-tail, All-weaker}
use Rattle.std.proofs.lemmas.Option.{none-some}
use Rattle.tracker_keeper.specs.declared.row.Row.{Row}
use Rattle.tracker_keeper.specs.Rows.{IsBelow}
use Rattle.tracker_rows.specs.Listed.{InOrder, IsAhead, IsAlone}
use Rattle.tracker_rows.proofs.Rising.{is_at, counts_one, counted_at, none_before}
use Rattle.tracker_loading.specs.Reading.{StandsAt, has_place_of, has_twin_at, has_twin}
use Rattle.tracker_loading.proofs.Order.{IsFrom, from_of, drop_at_row, apart_at, take_next, none_left, below_on, order_behind, order_before, ahead_of_all}

-- ---- counts

count_none : (row : Row) (rows : List Row) → All (λ other. is_at row other ≡ false) rows → count_by (is_at row) rows ≡ 0
count_none row [] none = refl
count_none row (x ∷ rows) none =
    omega (
      arith,
      sum_by-cons (λ y. cond (is_at row y) 1 0) x rows,
      ap counts_one (All-head (λ other. is_at row other ≡ false) x rows none),
      count_none row rows (All-tail (λ other. is_at row other ≡ false) x rows none),
    )

alone_from : (front : List Row) (row : Row) (more : List Row) → All (λ other. is_at row other ≡ false) front
    → All (λ other. is_at row other ≡ false) more → IsAlone (front ++ row ∷ more) row
alone_from front row more before behind = omega (arith, counted_at front row more, count_none row front before, count_none row more behind)

-- a row that is counted twice isn't alone
two_of : (front : List Row) (row : Row) (more : List Row) → IsAlone (front ++ row ∷ more) row → 1 ≤ count_by (is_at row) front ⊎ 1 ≤ count_by (is_at row) more → ⊥
two_of front row more alone (inl some) = omega (arith, counted_at front row more, alone, some)
two_of front row more alone (inr some) = omega (arith, counted_at front row more, alone, some)

count_at_head : (row other : Row) (more : List Row) → is_at row other ≡ true → 1 ≤ count_by (is_at row) (other ∷ more)
count_at_head row other more is = omega (arith, sum_by-cons (λ y. cond (is_at row y) 1 0) other more, ap counts_one is)

count_at_end : (row other : Row) (front : List Row) → is_at row other ≡ true → 1 ≤ count_by (is_at row) (front ++ other ∷ [])
count_at_end row other [] is = count_at_head row other [] is
count_at_end row other (x ∷ front) is =
    omega (arith, sum_by-cons (λ y. cond (is_at row y) 1 0) x (front ++ other ∷ []), count_at_end row other front is)

-- ---- places and the order

turned : (row other : Row) → is_at row other ≡ is_at other row
turned row other = grind arith

not_at : (row other : Row) → IsBelow row other → is_at row other ≡ false
not_at row other below = by (cases_Bool (is_at row other)) below
  where
    by : (is_at row other ≡ true) ⊎ (is_at row other ≡ false) → IsBelow row other → is_at row other ≡ false
    by (inr is) below = is
    by (inl is) (inl less) =
        let parts = and_parts (row.kind == other.kind) (row.no == other.no) is in
        let same : row.kind ≡ other.kind = eqb-true row.kind other.kind parts.0 in absurd (omega (arith, less, same))
    by (inl is) (inr equal) =
        let parts = and_parts (row.kind == other.kind) (row.no == other.no) is in
        let same : row.no ≡ other.no = eqb-true row.no other.no parts.1 in absurd (omega (arith, equal.1, same))

-- a row that isn't below another one nor at its place is above it
pub below_if_other : (row other : Row) → (IsBelow other row → ⊥) → is_at row other ≡ false → IsBelow row other
below_if_other row other not_below apart = by (from_of row other not_below) (cases_lt row.no other.no)
  where
    by : IsFrom row.kind row.no other → (row.no < other.no) ⊎ (other.no ≤ row.no) → IsBelow row other
    by (inl less) numbers = inl less
    by (inr is) (inl less) = inr (is.0, less)
    by (inr is) (inr ge) =
        let same : row.no ≡ other.no = omega (arith, is.1, ge) in
        absurd (false≢true (sym apart ∙ rw (eq-eqb row.kind other.kind is.0, eq-eqb row.no other.no same) refl))

-- all before a row that stands alone are below it
pub all_below : (rows : List Row) (place : ℕ) (row : Row) → InOrder rows → StandsAt rows place row → IsAlone rows row → All (λ other. IsBelow other row) (take place rows)
all_below rows place row ordered is alone =
    let front : List Row = take place rows in
    let more : List Row = drop (suc place) rows in
    let apart : rows ≡ front ++ row ∷ more = apart_at rows place row is in
    let before = order_before front row more (subst InOrder apart ordered) in
    let none = none_before front row more (subst (λ list. IsAlone list row) apart alone) in
    λ k d within. below_if_other (slice_index_or front k d) row (before k d within) (turned (slice_index_or front k d) row ∙ none k d within)

-- ---- the row before

earlier : (rows : List Row) (place : ℕ) (row : Row) → StandsAt rows (suc place) row → (last : Row) × StandsAt rows place last
earlier [] place row is = absurd (none-some row is)
earlier (x ∷ rows) zero row is = (x, refl)
earlier (x ∷ rows) (suc place) row is = earlier rows place row is

seen_twin : (rows : List Row) (place : ℕ) (row other : Row) → StandsAt rows place other → has_twin_at rows place row ≡ is_at row other
seen_twin rows place row other is = ap (λ (o : Option Row). option_map_or (has_place_of row) o false) is

below_from_last : (rows : List Row) (place : ℕ) (row last : Row) → InOrder rows → StandsAt rows (suc place) row → StandsAt rows place last → is_at row last ≡ false
    → All (λ other. IsBelow other row) (take (suc place) rows)
below_from_last rows place row last ordered is before apart =
    let front : List Row = take place rows in
    let more : List Row = drop (suc place) rows in
    let split : InOrder (front ++ last ∷ more) = subst InOrder (apart_at rows place last before) ordered in
    let behind : All (λ other. ¬ IsBelow other last) (row ∷ drop (suc (suc place)) rows) =
    subst (All (λ other. ¬ IsBelow other last)) (drop_at_row rows (suc place) row is) (order_behind front last more split) in
    let below : IsBelow last row =
    below_if_other last row (All-head (λ other. ¬ IsBelow other last) row (drop (suc (suc place)) rows) behind) (turned last row ∙ apart) in
    subst (All (λ other. IsBelow other row)) (sym (take_next rows place last before))
    (All-append (λ other. IsBelow other row) front (last ∷ [])
    (All-weaker (λ other. ¬ IsBelow last other) (λ other. IsBelow other row) (λ other not_below. below_on other last row not_below below) front (order_before front last more split))
    (All-cons (λ other. IsBelow other row) last [] below (All-nil (λ other. IsBelow other row))))

-- behind the first place, that is the one before it
seen_before : (test : ℕ → Bool) (place : ℕ) → (nat_lt 0 (suc place) && test (suc place - 1)) ≡ test place
seen_before test place = ap (λ (b : Bool). b && test (suc place - 1)) (lt-ltb 0 (suc place) (omega arith)) ∙ ap test (one_less place)
  where
    one_less : (n : ℕ) → suc n - 1 ≡ n
    one_less n = omega arith

none_before_it : (rows : List Row) (place : ℕ) (row : Row) → InOrder rows → StandsAt rows place row → (nat_lt 0 place && has_twin_at rows (place - 1) row) ≡ false
    → All (λ other. is_at row other ≡ false) (take place rows)
none_before_it rows zero row ordered is none = All-nil (λ other. is_at row other ≡ false)
none_before_it rows (suc place) row ordered is none =
    let last = earlier rows place row is in
    All-weaker (λ other. IsBelow other row) (λ other. is_at row other ≡ false) (λ other below. turned row other ∙ not_at other row below) (take (suc place) rows)
    (below_from_last rows place row last.0 ordered is last.1 (sym (seen_twin rows place row last.0 last.1) ∙ (sym (seen_before (λ n. has_twin_at rows n row) place) ∙ none)))

-- ---- the row behind

none_behind_it : (rows : List Row) (place : ℕ) (row : Row) → InOrder rows → StandsAt rows place row → has_twin_at rows (place + 1) row ≡ false
    → All (λ other. is_at row other ≡ false) (drop (place + 1) rows)
none_behind_it rows place row ordered is none = by (slice_get rows (place + 1)) refl
  where
    next : (other : Row) → StandsAt rows (place + 1) other → IsBelow row other
    next other there =
        below_if_other row other
        (All-head (λ o. ¬ IsBelow o row) other (drop (suc (place + 1)) rows)
        (subst (All (λ o. ¬ IsBelow o row)) (drop_at_row rows (place + 1) other there)
        (subst (λ (n : ℕ). All (λ o. ¬ IsBelow o row) (drop n rows)) (one_more place)
        (order_behind (take place rows) row (drop (suc place) rows) (subst InOrder (apart_at rows place row is) ordered)))))
        (sym (seen_twin rows (place + 1) row other there) ∙ none)
      where
        one_more : (n : ℕ) → suc n ≡ n + 1
        one_more n = omega arith

    by : (o : Option Row) → slice_get rows (place + 1) ≡ o → All (λ other. is_at row other ≡ false) (drop (place + 1) rows)
    by None is = subst (All (λ other. is_at row other ≡ false)) (sym (none_left rows (place + 1) is)) (All-nil (λ other. is_at row other ≡ false))
    by (Some other) is =
        All-weaker (IsAhead row.kind row.no) (λ o. is_at row o ≡ false) (λ o ahead. not_at row o ahead) (drop (place + 1) rows)
        (ahead_of_all rows (place + 1) other row.kind row.no ordered is (next other is))

-- ---- alone or not

or_left : (a b : Bool) → (a || b) ≡ false → a ≡ false
or_left false b is = refl
or_left true b is = is

or_right : (a b : Bool) → (a || b) ≡ false → b ≡ false
or_right false b is = is
or_right true b is = absurd (true≢false is)

pub alone_between : (rows : List Row) (place : ℕ) (row : Row) → InOrder rows → StandsAt rows place row → has_twin rows place row ≡ false → IsAlone rows row
alone_between rows place row ordered is none =
    let before : Bool = nat_lt 0 place && has_twin_at rows (place - 1) row in
    subst (λ list. IsAlone list row) (sym (apart_at rows place row is))
    (alone_from (take place rows) row (drop (suc place) rows)
    (none_before_it rows place row ordered is (or_left before (has_twin_at rows (place + 1) row) none))
    (subst (λ (n : ℕ). All (λ other. is_at row other ≡ false) (drop n rows)) (one_more place)
    (none_behind_it rows place row ordered is (or_right before (has_twin_at rows (place + 1) row) none))))
  where
    one_more : (n : ℕ) → n + 1 ≡ suc n
    one_more n = omega arith

twin_there : (rows : List Row) (place : ℕ) (row : Row) → has_twin_at rows place row ≡ true → (other : Row) × StandsAt rows place other × (is_at row other ≡ true)
twin_there rows place row is = by (slice_get rows place) refl
  where
    by : (o : Option Row) → slice_get rows place ≡ o → (other : Row) × StandsAt rows place other × (is_at row other ≡ true)
    by None none = absurd (false≢true (sym (ap (λ (o : Option Row). option_map_or (has_place_of row) o false) none) ∙ is))
    by (Some other) there = (other, there, sym (seen_twin rows place row other there) ∙ is)

not_with_next : (rows : List Row) (place : ℕ) (row : Row) → StandsAt rows place row → has_twin_at rows (suc place) row ≡ true → IsAlone rows row → ⊥
not_with_next rows place row is twin alone =
    let other = twin_there rows (suc place) row twin in
    two_of (take place rows) row (drop (suc place) rows) (subst (λ list. IsAlone list row) (apart_at rows place row is) alone)
    (inr (subst (λ list. 1 ≤ count_by (is_at row) list) (sym (drop_at_row rows (suc place) other.0 other.1))
    (count_at_head row other.0 (drop (suc (suc place)) rows) other.2)))

not_with_last : (rows : List Row) (place : ℕ) (row : Row) → StandsAt rows place row → (nat_lt 0 place && has_twin_at rows (place - 1) row) ≡ true → IsAlone rows row → ⊥
not_with_last rows zero row is twin alone = false≢true twin
not_with_last rows (suc place) row is twin alone =
    let other = twin_there rows place row (sym (seen_before (λ n. has_twin_at rows n row) place) ∙ twin) in
    two_of (take (suc place) rows) row (drop (suc (suc place)) rows) (subst (λ list. IsAlone list row) (apart_at rows (suc place) row is) alone)
    (inl (subst (λ list. 1 ≤ count_by (is_at row) list) (sym (take_next rows place other.0 other.1)) (count_at_end row other.0 (take place rows) other.2)))

pub not_alone : (rows : List Row) (place : ℕ) (row : Row) → StandsAt rows place row → has_twin rows place row ≡ true → IsAlone rows row → ⊥
not_alone rows place row is twin alone = by (cases_Bool before)
  where
    before : Bool
    before = nat_lt 0 place && has_twin_at rows (place - 1) row

    one_more : (n : ℕ) → n + 1 ≡ suc n
    one_more n = omega arith

    by : (before ≡ true) ⊎ (before ≡ false) → ⊥
    by (inl last) = not_with_last rows place row is last alone
    by (inr none) =
        not_with_next rows place row is (subst (λ (n : ℕ). has_twin_at rows n row ≡ true) (one_more place)
        (sym (ap (λ (b : Bool). b || has_twin_at rows (place + 1) row) none) ∙ twin)) alone
