-- Rows that stand in order, around a place.
use Rattle.std.proofs.Common.{◌≡◌, ℕ, zero, suc, ◌+◌, ◌<◌, ◌≤◌, ◌⊎◌, inl, inr, List, [], ◌∷◌, ◌++◌, slice_get, take, drop, None, All, refl, sym, ap, ◌∙◌, subst, arith}
use Rattle.std.proofs.lemmas.Bool.{cases_lt}
use Rattle.std.proofs.lemmas.List.Elements.{All-nil, All-cons, All-head, All-tail, All-weaker}
use Rattle.std.proofs.lemmas.Option.{none-some, same_Some}
use Rattle.tracker_keeper.specs.declared.row.Row.{Row}
use Rattle.tracker_keeper.specs.Rows.{IsBelow}
use Rattle.tracker_rows.specs.Listed.{InOrder, IsAhead}
use Rattle.tracker_loading.specs.Reading.{StandsAt}

-- ---- a place

pub drop_at_row : (rows : List Row) (place : ℕ) (row : Row) → StandsAt rows place row → drop place rows ≡ row ∷ drop (suc place) rows
drop_at_row [] place row is = absurd (none-some row is)
drop_at_row (x ∷ rows) zero row is = ap (λ (r : Row). r ∷ rows) (same_Some x row is)
drop_at_row (x ∷ rows) (suc place) row is = drop_at_row rows place row is

pub apart_at : (rows : List Row) (place : ℕ) (row : Row) → StandsAt rows place row → rows ≡ take place rows ++ row ∷ drop (suc place) rows
apart_at [] place row is = absurd (none-some row is)
apart_at (x ∷ rows) zero row is = ap (λ (r : Row). r ∷ rows) (same_Some x row is)
apart_at (x ∷ rows) (suc place) row is = ap (λ (list : List Row). x ∷ list) (apart_at rows place row is)

pub take_next : (rows : List Row) (place : ℕ) (row : Row) → StandsAt rows place row → take (suc place) rows ≡ take place rows ++ row ∷ []
take_next [] place row is = absurd (none-some row is)
take_next (x ∷ rows) zero row is = ap (λ (r : Row). r ∷ []) (same_Some x row is)
take_next (x ∷ rows) (suc place) row is = ap (λ (list : List Row). x ∷ list) (take_next rows place row is)

pub take_on : (rows : List Row) (place : ℕ) (row : Row) → StandsAt rows place row → take (place + 1) rows ≡ take place rows ++ row ∷ []
take_on rows place row is = ap (λ (n : ℕ). take n rows) (one_more place) ∙ take_next rows place row is
  where
    one_more : (n : ℕ) → n + 1 ≡ suc n
    one_more n = omega arith

pub none_left : (rows : List Row) (place : ℕ) → slice_get rows place ≡ None → drop place rows ≡ []
none_left [] zero is = refl
none_left [] (suc place) is = refl
none_left (x ∷ rows) zero is = absurd (none-some x (sym is))
none_left (x ∷ rows) (suc place) is = none_left rows place is

-- ---- the order

-- the place of that kind and number isn't behind the row
abbrev pub IsFrom : ℕ → ℕ → Row → Type 0
IsFrom kind number row = (kind < row.kind) ⊎ ((kind ≡ row.kind) × (number ≤ row.no))

pub from_of : (row other : Row) → (IsBelow other row → ⊥) → IsFrom row.kind row.no other
from_of row other not_below = by (cases_lt row.kind other.kind) (cases_lt other.kind row.kind) (cases_lt other.no row.no)
  where
    by : (row.kind < other.kind) ⊎ (other.kind ≤ row.kind) → (other.kind < row.kind) ⊎ (row.kind ≤ other.kind)
        → (other.no < row.no) ⊎ (row.no ≤ other.no) → IsFrom row.kind row.no other
    by (inl less) other_kinds numbers = inl less
    by (inr le) (inl less) numbers = absurd (not_below (inl less))
    by (inr le) (inr ge) (inl less) = absurd (not_below (inr (omega (arith, le, ge), less)))
    by (inr le) (inr ge) (inr number) = inr (omega (arith, le, ge), number)

-- what is ahead of a row is ahead of those that aren't below it
pub ahead_on : (kind number : ℕ) (row other : Row) → IsAhead kind number row → (IsBelow other row → ⊥) → IsAhead kind number other
ahead_on kind number row other ahead not_below = by ahead (from_of row other not_below)
  where
    by : IsAhead kind number row → IsFrom row.kind row.no other → IsAhead kind number other
    by (inl less) (inl more) = inl (omega (arith, less, more))
    by (inl less) (inr same) = inl (omega (arith, less, same.0))
    by (inr is) (inl more) = inl (omega (arith, is.0, more))
    by (inr is) (inr same) = inr (omega (arith, is.0, same.0), omega (arith, is.1, same.1))

-- a row that isn't below one is behind what is below that one
pub below_on : (other last row : Row) → (IsBelow last other → ⊥) → IsBelow last row → IsBelow other row
below_on other last row not_below below = by (from_of other last not_below) below
  where
    by : IsFrom other.kind other.no last → IsBelow last row → IsBelow other row
    by (inl less) (inl more) = inl (omega (arith, less, more))
    by (inl less) (inr same) = inl (omega (arith, less, same.0))
    by (inr is) (inl more) = inl (omega (arith, is.0, more))
    by (inr is) (inr same) = inr (omega (arith, is.0, same.0), omega (arith, is.1, same.1))

pub all_back : {X : Type 0} (P : X → Type 0) (xs ys : List X) → All P (xs ++ ys) → All P ys
all_back P [] ys all = all
all_back P (x ∷ xs) ys all = all_back P xs ys (All-tail P x (xs ++ ys) all)

first_behind : (row : Row) (more : List Row) → InOrder (row ∷ more) → All (λ other. ¬ IsBelow other row) more
first_behind row more ordered = λ k d within. ordered zero (suc k) d (omega arith) (omega (arith, within))

pub order_rest : (row : Row) (more : List Row) → InOrder (row ∷ more) → InOrder more
order_rest row more ordered = λ i j d less within. ordered (suc i) (suc j) d (omega (arith, less)) (omega (arith, within))

pub order_behind : (front : List Row) (row : Row) (more : List Row) → InOrder (front ++ row ∷ more) → All (λ other. ¬ IsBelow other row) more
order_behind [] row more ordered = first_behind row more ordered
order_behind (x ∷ front) row more ordered = order_behind front row more (order_rest x (front ++ row ∷ more) ordered)

pub order_before : (front : List Row) (row : Row) (more : List Row) → InOrder (front ++ row ∷ more) → All (λ other. ¬ IsBelow row other) front
order_before [] row more ordered = All-nil (λ other. ¬ IsBelow row other)
order_before (x ∷ front) row more ordered =
    All-cons (λ other. ¬ IsBelow row other) x front
    (All-head (λ other. ¬ IsBelow other x) row more
    (all_back (λ other. ¬ IsBelow other x) front (row ∷ more) (first_behind x (front ++ row ∷ more) ordered)))
    (order_before front row more (order_rest x (front ++ row ∷ more) ordered))

pub order_back : (front back : List Row) → InOrder (front ++ back) → InOrder back
order_back [] back ordered = ordered
order_back (x ∷ front) back ordered = order_back front back (order_rest x (front ++ back) ordered)

-- what is ahead of a row is ahead of all from it on
pub ahead_of_all : (rows : List Row) (place : ℕ) (row : Row) (kind number : ℕ) → InOrder rows → StandsAt rows place row → IsAhead kind number row
    → All (IsAhead kind number) (drop place rows)
ahead_of_all rows place row kind number ordered is ahead =
    subst (All (IsAhead kind number)) (sym (drop_at_row rows place row is))
    (All-cons (IsAhead kind number) row (drop (suc place) rows) ahead
    (All-weaker (λ other. ¬ IsBelow other row) (IsAhead kind number) (λ other behind. ahead_on kind number row other ahead behind) (drop (suc place) rows)
    (order_behind (take place rows) row (drop (suc place) rows) (subst InOrder (apart_at rows place row is) ordered))))

pub none_ahead : (rows : List Row) (place kind number : ℕ) → slice_get rows place ≡ None → All (IsAhead kind number) (drop place rows)
none_ahead rows place kind number none = subst (All (IsAhead kind number)) (sym (none_left rows place none)) (All-nil (IsAhead kind number))
