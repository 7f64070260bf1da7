-- Rows that are put where there were none are those that are found in their list.
use Rattle.std.proofs.Common.{◌≡◌, ℕ, ◌<◌, ◌^◌, ◌==◌, ◌&&◌, Bool, true, false, inl, inr, List, [], ◌∷◌, map, length, Option, Some, None, refl, sym, ap, ◌∙◌, subst, arith, eqb-true, eq-eqb, zero, suc, All, AllPairs}
use Rattle.std.specs.Prelude.{if◌then◌else◌, slice_index_or}
use Rattle.std.specs.Option.{option_or}
use Rattle.std.proofs.lemmas.Bool.{cases_Bool, and_parts}
use Rattle.std.proofs.lemmas.List.Elements.{All-head, All-tail, All-cons, All-nil}
use Rattle.tracker_keeper.specs.declared.row.Row.{Row}
use Rattle.tracker_keeper.specs.declared.row.RowOp.{RowOp}
use Rattle.tracker_keeper.specs.declared.row.RowOp.TheVariants.{Put}
use Rattle.tracker_keeper.specs.Rows.{Rows, IsBelow, IsListing, found, no_rows, number_of, with_op, with_ops}
use Rattle.tracker_rows.specs.Listed.{InOrder}
use mathlib.Core.Path.{fun_ext}

-- ---- the order

not_both : (one other : Row) → IsBelow one other → IsBelow other one → ⊥
not_both one other (inl less) (inl more) = omega (arith, less, more)
not_both one other (inl less) (inr back) = omega (arith, less, back.0)
not_both one other (inr less) (inl more) = omega (arith, less.0, more)
not_both one other (inr less) (inr back) = omega (arith, less.1, back.1)

pub in_order : (list : List Row) → AllPairs IsBelow list → InOrder list
in_order list rising i j d less within = not_both (slice_index_or list i d) (slice_index_or list j d) (rising i j d less within)

head_below : (row : Row) (rows : List Row) → AllPairs IsBelow (row ∷ rows) → All (IsBelow row) rows
head_below row rows h k d l = h zero (suc k) d (omega arith) (omega (arith, l))

tail_rises : (row : Row) (rows : List Row) → AllPairs IsBelow (row ∷ rows) → AllPairs IsBelow rows
tail_rises row rows h i j d l m = h (suc i) (suc j) d (omega (arith, l)) (omega (arith, m))

-- ---- what is found

-- the row is put there
abbrev is_at : Row → ℕ → ℕ → Bool
is_at row k n = (row.kind == k) && (row.no == n)

abbrev finds : Row → ℕ → ℕ → Bool
finds row k n = (k == row.kind) && (n == row.no)

at_both : (row : Row) (k n : ℕ) → is_at row k n ≡ true → finds row k n ≡ true
at_both row k n h =
    let parts = and_parts (row.kind == k) (row.no == n) h in
    rw (eq-eqb k row.kind (sym (eqb-true row.kind k parts.0)), eq-eqb n row.no (sym (eqb-true row.no n parts.1))) refl

at_found : (row : Row) (k n : ℕ) → finds row k n ≡ true → is_at row k n ≡ true
at_found row k n h =
    let parts = and_parts (k == row.kind) (n == row.no) h in
    rw (eq-eqb row.kind k (sym (eqb-true k row.kind parts.0)), eq-eqb row.no n (sym (eqb-true n row.no parts.1))) refl

other_by : (row : Row) (k n : ℕ) (b : Bool) → finds row k n ≡ b → is_at row k n ≡ false → finds row k n ≡ false
other_by row k n true is other = let at = at_found row k n is in absurd (cc (at, other))
other_by row k n false is other = is

above_other : (row other : Row) → IsBelow row other → finds other row.kind row.no ≡ true → ⊥
above_other row other below is =
    let parts = and_parts (row.kind == other.kind) (row.no == other.no) is in
    let kind : row.kind ≡ other.kind = eqb-true row.kind other.kind parts.0 in
    let number : row.no ≡ other.no = eqb-true row.no other.no parts.1 in
    by below kind number
  where
    by : IsBelow row other → row.kind ≡ other.kind → row.no ≡ other.no → ⊥
    by (inl less) kind number = omega (arith, less, kind)
    by (inr less) kind number = omega (arith, less.1, number)

none_above : (row : Row) (list : List Row) → All (IsBelow row) list → found list row.kind row.no ≡ None
none_above row [] above = refl
none_above row (other ∷ list) above = elim (cases_Bool (finds other row.kind row.no)) [
  | inl is ↦ absurd (above_other row other (All-head (IsBelow row) other list above) is)
  | inr apart ↦ rw apart (none_above row list (All-tail (IsBelow row) other list above))
]

none_at : (row : Row) (list : List Row) (k n : ℕ) → All (IsBelow row) list → is_at row k n ≡ true → found list k n ≡ None
none_at row list k n above is =
    let parts = and_parts (row.kind == k) (row.no == n) is in
    let kind : row.kind ≡ k = eqb-true row.kind k parts.0 in
    let number : row.no ≡ n = eqb-true row.no n parts.1 in
    subst (λ j. found list j n ≡ None) kind (subst (λ j. found list row.kind j ≡ None) number (none_above row list above))

put_first : (row : Row) (list : List Row) (rows : Rows) (k n : ℕ) → All (IsBelow row) list
    → option_or (found list k n) (with_op (Put row) rows k n) ≡ option_or (found (row ∷ list) k n) (rows k n)
put_first row list rows k n above = elim (cases_Bool (is_at row k n)) [
  | inl is ↦ let here = at_both row k n is in let none = none_at row list k n above is in rw (is, here, none) refl
  | inr other ↦ let apart = other_by row k n (finds row k n) refl other in rw (other, apart) refl
]

put_all : (list : List Row) (rows : Rows) → AllPairs IsBelow list → (k n : ℕ) → with_ops (map Put list) rows k n ≡ option_or (found list k n) (rows k n)
put_all [] rows rising k n = refl
put_all (row ∷ list) rows rising k n =
    put_all list (with_op (Put row) rows) (tail_rises row list rising) k n ∙ put_first row list rows k n (head_below row list rising)

or_none : (o : Option (List ℕ)) → option_or o None ≡ o
or_none None = refl
or_none (Some body) = refl

pub puts_found : (list : List Row) → AllPairs IsBelow list → with_ops (map Put list) no_rows ≡ found list
puts_found list rising = fun_ext (λ k. fun_ext (λ n. put_all list no_rows rising k n ∙ or_none (found list k n)))

-- ---- numbers

small_by : (list : List Row) → All (λ row. row.no < 2 ^ 63) list → All (λ op. number_of op < 2 ^ 63) (map Put list)
small_by [] small = All-nil (λ (op : RowOp). number_of op < 2 ^ 63)
small_by (row ∷ list) small =
    All-cons (λ (op : RowOp). number_of op < 2 ^ 63) (Put row) (map Put list) (All-head (λ (r : Row). r.no < 2 ^ 63) row list small)
    (small_by list (All-tail (λ (r : Row). r.no < 2 ^ 63) row list small))

pub small_puts : (ops : List RowOp) (list : List Row) → ops ≡ map Put list → All (λ row. row.no < 2 ^ 63) list → All (λ op. number_of op < 2 ^ 63) ops
small_puts ops list is small = subst (λ os. All (λ op. number_of op < 2 ^ 63) os) (sym is) (small_by list small)

-- ---- the rows of a listing are those that it finds

pub listed_are : (rows : Rows) (list : List Row) → IsListing rows list → found list ≡ rows
listed_are rows list is = fun_ext (λ k. fun_ext (λ n. is.same k n))
