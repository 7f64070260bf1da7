-- The rows of a tracker stand in one list alone.
use Rattle.std.proofs.Common.{◌≡◌, ◌+◌, ◌<◌, ◌==◌, ◌&&◌, ℕ, zero, suc, Bool, true, false, List, [], ◌∷◌, length, Option, Some, None, inl, inr, refl, sym, ◌∙◌, ap, ap₂, subst, arith, eqb-true}
use Rattle.std.specs.Prelude.{◌⊎◌, slice_index_or, if◌then◌else◌}
use Rattle.std.specs.List.{AllPairs}
use Rattle.std.proofs.lemmas.Bool.{cases_Bool, eq-eqb, true≢false}
use Rattle.std.proofs.lemmas.Option.{same_Some, none-some}
use Rattle.tracker_keeper.specs.declared.row.Row.{Row}
use Rattle.tracker_keeper.specs.Rows.{Rows, IsBelow, found, IsListing}

-- ---- rows behind one

-- each row of a list is behind this one
abbrev AreBehind : Row → List Row → Type 0
AreBehind row [] = Unit {0}
AreBehind row (other ∷ more) = IsBelow row other × AreBehind row more

behind_by : (row : Row) (list : List Row) → ((j : ℕ) (d : Row) → j < length list → IsBelow row (slice_index_or list j d)) → AreBehind row list
behind_by row [] each = tt
behind_by row (other ∷ more) each = (each 0 other (omega arith), behind_by row more (λ j d within. each (suc j) d (omega (arith, within))))

behind_first : (row : Row) (list : List Row) → AllPairs IsBelow (row ∷ list) → AreBehind row list
behind_first row list rising = behind_by row list (λ j d within. rising 0 (suc j) d (omega arith) (omega (arith, within)))

rising_rest : (row : Row) (list : List Row) → AllPairs IsBelow (row ∷ list) → AllPairs IsBelow list
rising_rest row list rising = λ i j d less within. rising (suc i) (suc j) d (omega (arith, less)) (omega (arith, within))

-- a row that is found among them is behind
behind_found : (row : Row) (list : List Row) (kind number : ℕ) (body : List ℕ) → AreBehind row list → found list kind number ≡ Some body
    → IsBelow row (record { kind = kind; no = number; body = body })
behind_found row [] kind number body behind is = absurd (none-some body is)
behind_found row (other ∷ more) kind number body behind is = by (kind == other.kind) (number == other.no) refl refl (λ rest. behind_found row more kind number body behind.1 rest) is
  where
    by : (a b : Bool) → (kind == other.kind) ≡ a → (number == other.no) ≡ b → (found more kind number ≡ Some body → IsBelow row (record { kind = kind; no = number; body = body }))
        → (if a && b then Some other.body else found more kind number) ≡ Some body → IsBelow row (record { kind = kind; no = number; body = body })
    by true true same too rest is =
        subst (λ k. IsBelow row (record { kind = k; no = number; body = body })) (sym (eqb-true kind other.kind same))
        (subst (λ n. IsBelow row (record { kind = other.kind; no = n; body = body })) (sym (eqb-true number other.no too)) behind.0)
    by true false same apart rest is = rest is
    by false b apart too rest is = rest is

not_both : (one other : Row) → IsBelow one other → IsBelow other one → ⊥
not_both one other (inl less) (inl more) = omega (arith, less, more)
not_both one other (inl less) (inr back) = omega (arith, less, back.0)
not_both one other (inr less) (inl more) = omega (arith, less.0, more)
not_both one other (inr less) (inr back) = omega (arith, less.1, back.1)

-- ---- two lists

found_first : (row : Row) (more : List Row) → found (row ∷ more) row.kind row.no ≡ Some row.body
found_first row more = rw (eq-eqb row.kind row.kind refl, eq-eqb row.no row.no refl) refl

-- the row of a key stands first in the other list too, or is behind its first
first_or_behind : (row other : Row) (more : List Row) → AllPairs IsBelow (other ∷ more) → found (other ∷ more) row.kind row.no ≡ Some row.body → (row ≡ other) ⊎ IsBelow other row
first_or_behind row other more rising is = by (row.kind == other.kind) (row.no == other.no) refl refl is
  where
    by : (a b : Bool) → (row.kind == other.kind) ≡ a → (row.no == other.no) ≡ b → (if a && b then Some other.body else found more row.kind row.no) ≡ Some row.body
        → (row ≡ other) ⊎ IsBelow other row
    by true true same too is =
        inl (ap (λ k. record row { kind = k }) (eqb-true row.kind other.kind same) ∙ ap (λ n. record row { kind = other.kind; no = n }) (eqb-true row.no other.no too)
        ∙ ap (λ (b : List ℕ). record other { body = b }) (sym (same_Some other.body row.body is)))
    by true false same apart is = inr (behind_found other more row.kind row.no row.body (behind_first other more rising) is)
    by false b apart too is = inr (behind_found other more row.kind row.no row.body (behind_first other more rising) is)

same_first : (row other : Row) → (row ≡ other) ⊎ IsBelow other row → (other ≡ row) ⊎ IsBelow row other → row ≡ other
same_first row other (inl same) two = same
same_first row other (inr behind) (inl same) = sym same
same_first row other (inr behind) (inr back) = absurd (not_both row other back behind)

not_itself : (row : Row) (kind number : ℕ) (body : List ℕ) → IsBelow row (record { kind = kind; no = number; body = body }) → kind ≡ row.kind → number ≡ row.no → ⊥
not_itself row kind number body (inl less) k n = omega (arith, less, k)
not_itself row kind number body (inr less) k n = omega (arith, less.1, n)

-- behind one and the same first row the lists find the same
rest_found : (row : Row) (one other : List Row) → AllPairs IsBelow (row ∷ one) → AllPairs IsBelow (row ∷ other)
    → ((kind number : ℕ) → found (row ∷ one) kind number ≡ found (row ∷ other) kind number) → (kind number : ℕ) → found one kind number ≡ found other kind number
rest_found row one other rising other_rising same kind number = by (kind == row.kind) (number == row.no) refl refl (same kind number)
  where
    never : (list : List Row) → AllPairs IsBelow (row ∷ list) → kind ≡ row.kind → number ≡ row.no → found list kind number ≡ None
    never list rising k n = none (found list kind number) refl
      where
        none : (o : Option (List ℕ)) → found list kind number ≡ o → o ≡ None
        none None is = refl
        none (Some body) is = absurd (not_itself row kind number body (behind_found row list kind number body (behind_first row list rising) is) k n)

    by : (a b : Bool) → (kind == row.kind) ≡ a → (number == row.no) ≡ b
        → (if a && b then Some row.body else found one kind number) ≡ (if a && b then Some row.body else found other kind number) → found one kind number ≡ found other kind number
    by true true k n is = never one rising (eqb-true kind row.kind k) (eqb-true number row.no n) ∙ sym (never other other_rising (eqb-true kind row.kind k) (eqb-true number row.no n))
    by true false k n is = is
    by false b k n is = is

pub one_list : (one other : List Row) → AllPairs IsBelow one → AllPairs IsBelow other → ((kind number : ℕ) → found one kind number ≡ found other kind number) → one ≡ other
one_list [] [] rising other_rising same = refl
one_list [] (row ∷ more) rising other_rising same = absurd (none-some row.body (same row.kind row.no ∙ found_first row more))
one_list (row ∷ more) [] rising other_rising same = absurd (none-some row.body (sym (same row.kind row.no) ∙ found_first row more))
one_list (row ∷ more) (other ∷ others) rising other_rising same =
    let first : row ≡ other = same_first row other
    (first_or_behind row other others other_rising (sym (same row.kind row.no) ∙ found_first row more))
    (first_or_behind other row more rising (same other.kind other.no ∙ found_first other others)) in
    let theirs : AllPairs IsBelow (row ∷ others) = subst (λ (r : Row). AllPairs IsBelow (r ∷ others)) (sym first) other_rising in
    let found_same : (kind number : ℕ) → found (row ∷ more) kind number ≡ found (row ∷ others) kind number =
    subst (λ (r : Row). (kind number : ℕ) → found (row ∷ more) kind number ≡ found (r ∷ others) kind number) (sym first) same in
    ap₂ (λ (r : Row) (rs : List Row). r ∷ rs) first
    (one_list more others (rising_rest row more rising) (rising_rest row others theirs) (rest_found row more others rising theirs found_same))

pub one_listing : (rows : Rows) (one other : List Row) → IsListing rows one → IsListing rows other → one ≡ other
one_listing rows one other is also = one_list one other is.rising also.rising (λ kind number. is.same kind number ∙ sym (also.same kind number))
