-- Lists whose rows of changes are the same have the same ones in the same order.
use Rattle.std.proofs.Common.{◌≡◌, ℕ, zero, suc, ◌<◌, ◌≤◌, ◌==◌, ◌&&◌, ◌⊎◌, Bool, true, false, List, [], ◌∷◌, Option, Some, None, refl, sym, ap, ◌∙◌, subst, arith, inl, inr, eq-eqb, eqb-true}
use Rattle.std.specs.Prelude.{filter, if◌then◌else◌}
use Rattle.std.specs.List.{All, AllPairs}
use Rattle.std.proofs.lemmas.Bool.{and_parts, cases_Bool, true≢false}
use Rattle.std.proofs.lemmas.List.Elements.{All-head, All-tail, All-filter}
use Rattle.std.proofs.lemmas.List.Kept.{AllPairs-filter}
use Rattle.std.proofs.lemmas.Option.{none-some, same_Some}
use Rattle.tracker_keeper.specs.declared.row.Row.{Row}
use Rattle.tracker_keeper.specs.Rows.{Rows, IsBelow, IsListing, found}
use Rattle.tracker_rows.proofs.Walk.{is_change}

-- the rows of issues and of change groups
abbrev pub changes_of : List Row → List Row
changes_of list = filter (λ row. is_change row.kind) list

abbrev Rises : List Row → Type 0
Rises list = AllPairs IsBelow list

head_below : (row : Row) (rows : List Row) → Rises (row ∷ rows) → All (IsBelow row) rows
head_below row rows h k d l = h zero (suc k) d (omega arith) (omega (arith, l))

tail_rises : (row : Row) (rows : List Row) → Rises (row ∷ rows) → Rises rows
tail_rises row rows h i j d l m = h (suc i) (suc j) d (omega (arith, l)) (omega (arith, m))

-- ---- places

-- the row is found there
abbrev is_at : Row → ℕ → ℕ → Bool
is_at row k n = (k == row.kind) && (n == row.no)

at_parts : (row : Row) (k n : ℕ) → is_at row k n ≡ true → (k ≡ row.kind) × (n ≡ row.no)
at_parts row k n is =
    let parts = and_parts (k == row.kind) (n == row.no) is in (eqb-true k row.kind parts.0, eqb-true n row.no parts.1)

at_itself : (row : Row) → is_at row row.kind row.no ≡ true
at_itself row = rw (eq-eqb row.kind row.kind refl, eq-eqb row.no row.no refl) refl

found_first : (row : Row) (list : List Row) → found (row ∷ list) row.kind row.no ≡ Some row.body
found_first row list = rw (at_itself row) refl

apart : (row other : Row) → IsBelow row other → is_at other row.kind row.no ≡ false
apart row other below = elim (cases_Bool (is_at other row.kind row.no)) [
  | inl is ↦ let at = at_parts other row.kind row.no is in absurd (differ below at.0 at.1)
  | inr is ↦ is
] where
  differ : IsBelow row other → row.kind ≡ other.kind → row.no ≡ other.no → ⊥
  differ (inl less) kind number = omega (arith, less, kind)
  differ (inr less) kind number = omega (arith, less.1, number)

none_above : (row : Row) (list : List Row) → All (IsBelow row) list → found list row.kind row.no ≡ None
none_above row [] above = refl
none_above row (other ∷ list) above =
    rw (apart row other (All-head (IsBelow row) other list above)) (none_above row list (All-tail (IsBelow row) other list above))

-- ---- lists that rise

-- a row that is found in a list that rises from another one on is that one, or above it
above_or_at : (row : Row) (list : List Row) (k n : ℕ) (body : List ℕ) → All (IsBelow row) list → found (row ∷ list) k n ≡ Some body
    → (is_at row k n ≡ true) ⊎ ((row.kind < k) ⊎ ((row.kind ≡ k) × (row.no < n)))
above_or_at row list k n body above is = elim (cases_Bool (is_at row k n)) [
  | inl here ↦ inl here
  | inr other ↦ inr (among list above (rw other at is))
] where
  among : (list : List Row) → All (IsBelow row) list → found list k n ≡ Some body → (row.kind < k) ⊎ ((row.kind ≡ k) × (row.no < n))
  among [] all has = absurd (none-some body has)
  among (x ∷ xs) all has = elim (cases_Bool (is_at x k n)) [
    | inl here ↦
        let at = at_parts x k n here in
        subst (λ (i : ℕ). (row.kind < i) ⊎ ((row.kind ≡ i) × (row.no < n))) (sym at.0)
        (subst (λ (j : ℕ). (row.kind < x.kind) ⊎ ((row.kind ≡ x.kind) × (row.no < j))) (sym at.1) (All-head (IsBelow row) x xs all))
    | inr other ↦ among xs (All-tail (IsBelow row) x xs all) (rw other at has)
  ]

abbrev AreSame : List Row → List Row → Type 0
AreSame xs ys = (k n : ℕ) → found xs k n ≡ found ys k n

abbrev row_of : ℕ → ℕ → List ℕ → Row
row_of kind number body = record { kind = kind; no = number; body = body }

same_row : (x y : Row) → x.kind ≡ y.kind → x.no ≡ y.no → x.body ≡ y.body → x ≡ y
same_row x y kind number body =
    ap (λ (k : ℕ). row_of k x.no x.body) kind ∙ (ap (λ (n : ℕ). row_of y.kind n x.body) number ∙ ap (λ (text : List ℕ). row_of y.kind y.no text) body)

heads_meet : (x y : Row) (xs ys : List Row) → Rises (x ∷ xs) → Rises (y ∷ ys) → AreSame (x ∷ xs) (y ∷ ys) → (x.kind ≡ y.kind) × (x.no ≡ y.no)
heads_meet x y xs ys rise rises same =
    by (above_or_at y ys x.kind x.no x.body (head_below y ys rises) (sym (same x.kind x.no) ∙ found_first x xs))
    (above_or_at x xs y.kind y.no y.body (head_below x xs rise) (same y.kind y.no ∙ found_first y ys))
  where
    by : (is_at y x.kind x.no ≡ true) ⊎ ((y.kind < x.kind) ⊎ ((y.kind ≡ x.kind) × (y.no < x.no)))
        → (is_at x y.kind y.no ≡ true) ⊎ ((x.kind < y.kind) ⊎ ((x.kind ≡ y.kind) × (x.no < y.no)))
        → (x.kind ≡ y.kind) × (x.no ≡ y.no)
    by (inl here) other = at_parts y x.kind x.no here
    by (inr above) (inl here) = let at = at_parts x y.kind y.no here in (sym at.0, sym at.1)
    by (inr (inl one)) (inr (inl other)) = absurd (omega (arith, one, other))
    by (inr (inl one)) (inr (inr other)) = absurd (omega (arith, one, other.0))
    by (inr (inr one)) (inr (inl other)) = absurd (omega (arith, one.0, other))
    by (inr (inr one)) (inr (inr other)) = absurd (omega (arith, one.1, other.1))

tails_same : (x : Row) (xs ys : List Row) → All (IsBelow x) xs → All (IsBelow x) ys → AreSame (x ∷ xs) (x ∷ ys) → AreSame xs ys
tails_same x xs ys above over same k n = elim (cases_Bool (is_at x k n)) [
  | inl here ↦
      let at = at_parts x k n here in
      subst (λ (i : ℕ). found xs i n ≡ found ys i n) (sym at.0)
      (subst (λ (j : ℕ). found xs x.kind j ≡ found ys x.kind j) (sym at.1) (none_above x xs above ∙ sym (none_above x ys over)))
  | inr other ↦ rw other at (same k n)
]

one_list : (xs ys : List Row) → Rises xs → Rises ys → AreSame xs ys → xs ≡ ys
one_list [] [] rise rises same = refl
one_list [] (y ∷ ys) rise rises same = absurd (none-some y.body (same y.kind y.no ∙ found_first y ys))
one_list (x ∷ xs) [] rise rises same = absurd (none-some x.body (sym (same x.kind x.no) ∙ found_first x xs))
one_list (x ∷ xs) (y ∷ ys) rise rises same =
    let meet = heads_meet x y xs ys rise rises same in
    let there : found (y ∷ ys) x.kind x.no ≡ Some y.body =
    subst (λ (i : ℕ). found (y ∷ ys) i x.no ≡ Some y.body) (sym meet.0) (subst (λ (j : ℕ). found (y ∷ ys) y.kind j ≡ Some y.body) (sym meet.1) (found_first y ys)) in
    let is : x ≡ y = same_row x y meet.0 meet.1 (same_Some x.body y.body (sym (found_first x xs) ∙ (same x.kind x.no ∙ there))) in
    let over : All (IsBelow x) ys = subst (λ (r : Row). All (IsBelow r) ys) (sym is) (head_below y ys rises) in
    let tails = tails_same x xs ys (head_below x xs rise) over (subst (λ (r : Row). AreSame (x ∷ xs) (r ∷ ys)) (sym is) same) in
    ap (λ (r : Row). r ∷ xs) is ∙ ap (λ rest. y ∷ rest) (one_list xs ys (tail_rises x xs rise) (tail_rises y ys rises) tails)

-- ---- the rows of changes

found_change : (list : List Row) (k n : ℕ) → is_change k ≡ true → found (changes_of list) k n ≡ found list k n
found_change [] k n is = refl
found_change (row ∷ list) k n is = elim (cases_Bool (is_change row.kind)) [
  | inl change ↦ rw (change, found_change list k n is) refl
  | inr other ↦ elim (cases_Bool (is_at row k n)) [
    | inl here ↦
        let at = at_parts row k n here in
        absurd (true≢false (sym is ∙ (ap is_change at.0 ∙ other)))
    | inr elsewhere ↦ rw (other, elsewhere) (found_change list k n is)
  ]
]

found_no_change : (list : List Row) (k n : ℕ) → is_change k ≡ false → found (changes_of list) k n ≡ None
found_no_change [] k n is = refl
found_no_change (row ∷ list) k n is = elim (cases_Bool (is_change row.kind)) [
  | inl change ↦ elim (cases_Bool (is_at row k n)) [
    | inl here ↦
        let at = at_parts row k n here in
        absurd (true≢false (sym change ∙ (ap is_change (sym at.0) ∙ is)))
    | inr elsewhere ↦ rw (change, elsewhere) (found_no_change list k n is)
  ]
  | inr other ↦ rw other (found_no_change list k n is)
]

-- where the rows of changes are the same, so are their lists
pub same_changes : (one other : Rows) (xs ys : List Row) → IsListing one xs → IsListing other ys → ((k n : ℕ) → is_change k ≡ true → one k n ≡ other k n) → changes_of xs ≡ changes_of ys
same_changes one other xs ys listing listings same =
    one_list (changes_of xs) (changes_of ys) (AllPairs-filter IsBelow (λ row. is_change row.kind) xs listing.rising)
    (AllPairs-filter IsBelow (λ row. is_change row.kind) ys listings.rising) all
  where
    all : AreSame (changes_of xs) (changes_of ys)
    all k n = elim (cases_Bool (is_change k)) [
      | inl is ↦ found_change xs k n is ∙ (listing.same k n ∙ (same k n is ∙ (sym (listings.same k n) ∙ sym (found_change ys k n is))))
      | inr is ↦ found_no_change xs k n is ∙ sym (found_no_change ys k n is)
    ]
