-- Rows in order of which no two have one kind and number rise.
use Rattle.std.proofs.Common.{◌≡◌, ℕ, zero, suc, ◌+◌, ◌<◌, ◌≤◌, ◌==◌, ◌&&◌, ◌⊎◌, inl, inr, Bool, true, false, List, [], ◌∷◌, ◌++◌, AllPairs, All, count_by, refl, sym, ap, ◌∙◌, subst, arith, eq-eqb}
use Rattle.std.specs.Prelude.{cond, slice_index_or}
use Rattle.std.proofs.lemmas.Bool.{cases_lt, cases_eq, false≢true}
use Rattle.std.proofs.lemmas.List.Sums.{sum_by-cons, sum_by-append}
use Rattle.std.proofs.lemmas.List.Elements.{All-nil, All-cons, All-head, All-tail}
use Rattle.std.proofs.lemmas.List.Kept.{AllPairs-cons}
use Rattle.tracker_keeper.specs.declared.row.Row.{Row}
use Rattle.tracker_keeper.specs.Rows.{IsBelow}
use Rattle.tracker_rows.specs.Listed.{InOrder, IsAlone}
use Rattle.tracker_rows.specs.Gathered.{Gathered, with_part}
use Rattle.tracker_rows.specs.Loading.{AreRead}

-- ---- counts

abbrev pub counts_one : Bool → ℕ
counts_one b = cond b 1 0

-- where none is counted, none passes
none_passes : {X : Type 0} (test : X → Bool) (xs : List X) → count_by test xs ≡ 0 → All (λ x. test x ≡ false) xs
none_passes test [] none = All-nil (λ x. test x ≡ false)
none_passes test (x ∷ xs) none = by (test x) refl (none_passes test xs)
  where
    by : (b : Bool) → test x ≡ b → (count_by test xs ≡ 0 → All (λ y. test y ≡ false) xs) → All (λ y. test y ≡ false) (x ∷ xs)
    by true is rest = absurd (omega (arith, sum_by-cons (λ y. cond (test y) 1 0) x xs, ap counts_one is, none))
    by false is rest =
        All-cons (λ y. test y ≡ false) x xs is (rest (omega (arith, sum_by-cons (λ y. cond (test y) 1 0) x xs, ap counts_one is, none)))

-- the row has this one's kind and number
abbrev pub is_at : Row → Row → Bool
is_at row other = (row.kind == other.kind) && (row.no == other.no)

pub at_itself : (row : Row) → is_at row row ≡ true
at_itself row = rw (eq-eqb row.kind row.kind refl, eq-eqb row.no row.no refl) refl

-- so many before it, itself, and so many behind it
pub counted_at : (front : List Row) (row : Row) (more : List Row) → count_by (is_at row) (front ++ row ∷ more) ≡ count_by (is_at row) front + (1 + count_by (is_at row) more)
counted_at front row more =
    let count : Row → ℕ = λ other. cond (is_at row other) 1 0 in
    omega (arith, sum_by-append count front (row ∷ more), sum_by-cons count row more, ap counts_one (at_itself row))

pub none_behind : (front : List Row) (row : Row) (more : List Row) → IsAlone (front ++ row ∷ more) row → All (λ other. is_at row other ≡ false) more
none_behind front row more alone = none_passes (is_at row) more (omega (arith, counted_at front row more, alone))

pub none_before : (front : List Row) (row : Row) (more : List Row) → IsAlone (front ++ row ∷ more) row → All (λ other. is_at row other ≡ false) front
none_before front row more alone = none_passes (is_at row) front (omega (arith, counted_at front row more, alone))

-- ---- the order

-- a row that is neither below another one nor at its place is above it
below_if_apart : (row other : Row) → (IsBelow other row → ⊥) → is_at row other ≡ false → IsBelow row other
below_if_apart row other not_below apart = by (cases_lt row.kind other.kind) (cases_eq row.kind other.kind) (cases_lt row.no other.no) (cases_eq row.no other.no)
  where
    by : (row.kind < other.kind) ⊎ (other.kind ≤ row.kind) → (row.kind ≡ other.kind) ⊎ (row.kind ≡ other.kind → ⊥)
        → (row.no < other.no) ⊎ (other.no ≤ row.no) → (row.no ≡ other.no) ⊎ (row.no ≡ other.no → ⊥) → IsBelow row other
    by (inl less) kinds numbers nos = inl less
    by (inr le) (inl same) (inl less) nos = inr (same, less)
    by (inr le) (inl same) (inr ge) (inl equal) =
        absurd (false≢true (sym apart ∙ rw (eq-eqb row.kind other.kind same, eq-eqb row.no other.no equal) refl))
    by (inr le) (inl same) (inr ge) (inr differ) =
        absurd (not_below (inr (sym same, elim (cases_lt other.no row.no) [ inl lt ↦ lt | inr back ↦ absurd (differ (omega (arith, ge, back))) ])))
    by (inr le) (inr differ) numbers nos =
        absurd (not_below (inl (elim (cases_lt other.kind row.kind) [ inl lt ↦ lt | inr back ↦ absurd (differ (omega (arith, le, back))) ])))

-- each row is below all behind it
abbrev pub Rise : List Row → Type 0
Rise [] = Unit {0}
Rise (row ∷ more) = All (IsBelow row) more × Rise more

pub one_by_one : (front : List Row) (row : Row) (more : List Row) → front ++ row ∷ more ≡ (front ++ row ∷ []) ++ more
one_by_one [] row more = refl
one_by_one (x ∷ front) row more = ap (λ (list : List Row). x ∷ list) (one_by_one front row more)

all_front : {X : Type 0} (P : X → Type 0) (xs ys : List X) → All P (xs ++ ys) → All P xs
all_front P [] ys all = All-nil P
all_front P (x ∷ xs) ys all = All-cons P x xs (All-head P x (xs ++ ys) all) (all_front P xs ys (All-tail P x (xs ++ ys) all))

-- so does each front of rows in order that is good
pub rising : (rows front list left : List Row) (g after : Gathered) → rows ≡ front ++ (list ++ left) → InOrder (list ++ left) → AreRead rows g list after
    → Rise list
rising rows front [] left g after is ordered read = tt
rising rows front (row ∷ more) left g after is ordered read =
    let apart = none_behind front row (more ++ left) (subst (λ all. IsAlone all row) is read.1.1.alone) in (
      all_front (IsBelow row) more left
          (λ k d within. below_if_apart row (slice_index_or (more ++ left) k d) (ordered zero (suc k) d (omega arith) (omega (arith, within))) (apart k d within)),
      rising rows (front ++ row ∷ []) more left (with_part g read.1.0) after (is ∙ one_by_one front row (more ++ left))
          (λ i j d less within. ordered (suc i) (suc j) d (omega (arith, less)) (omega (arith, within))) read.1.2,
    )

pub rising_pairs : (list : List Row) → Rise list → AllPairs IsBelow list
rising_pairs [] rise = λ i j d less within. absurd (omega (arith, within))
rising_pairs (row ∷ more) rise = AllPairs-cons IsBelow row more rise.0 (rising_pairs more rise.1)
