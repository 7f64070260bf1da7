-- Where a row is found among those that have been read.
use Rattle.std.proofs.Common.{◌≡◌, ℕ, ◌==◌, ◌&&◌, inl, inr, false, List, [], ◌∷◌, ◌++◌, Option, Some, None, refl, sym, ◌∙◌, subst, arith, eqb-true, eq-eqb}
use Rattle.std.specs.Prelude.{if◌then◌else◌}
use Rattle.std.specs.List.{All}
use Rattle.std.specs.Option.{option_or}
use Rattle.std.proofs.lemmas.Bool.{cases_Bool, and_parts}
use Rattle.std.proofs.lemmas.List.Elements.{All-head, All-tail}
use Rattle.tracker_keeper.specs.declared.row.Row.{Row}
use Rattle.tracker_keeper.specs.Rows.{found}
use Rattle.tracker_rows.specs.Listed.{IsAlone}
use Rattle.tracker_rows.proofs.Rising.{is_at, none_before}

-- among rows and others behind them
found_behind : (front list : List Row) (k n : ℕ) → found (front ++ list) k n ≡ option_or (found front k n) (found list k n)
found_behind [] list k n = refl
found_behind (row ∷ front) list k n = elim (cases_Bool ((k == row.kind) && (n == row.no))) [
  | inl is ↦ rw is refl
  | inr other ↦ rw other (found_behind front list k n)
]

none_found : (row : Row) (front : List Row) → All (λ other. is_at row other ≡ false) front → found front row.kind row.no ≡ None
none_found row [] apart = refl
none_found row (other ∷ front) apart =
    rw (All-head (λ other. is_at row other ≡ false) other front apart) (none_found row front (All-tail (λ other. is_at row other ≡ false) other front apart))

-- a row that stands alone isn't found before it
pub alone_found : (front : List Row) (row : Row) (more : List Row) → IsAlone (front ++ row ∷ more) row → found front row.kind row.no ≡ None
alone_found front row more alone = none_found row front (none_before front row more alone)

or_none : (o : Option (List ℕ)) → option_or o None ≡ o
or_none None = refl
or_none (Some body) = refl

-- and behind it, it is found where it belongs
pub found_pushed : (front : List Row) (row : Row) (k n : ℕ) → found front row.kind row.no ≡ None
    → found (front ++ row ∷ []) k n ≡ (if (row.kind == k) && (row.no == n) then Some row.body else found front k n)
found_pushed front row k n none = elim (cases_Bool ((row.kind == k) && (row.no == n))) [
  | inl is ↦
      let parts = and_parts (row.kind == k) (row.no == n) is in
      let kind : row.kind ≡ k = eqb-true row.kind k parts.0 in
      let number : row.no ≡ n = eqb-true row.no n parts.1 in
      let here : found front k n ≡ None = subst (λ j. found front j n ≡ None) kind (subst (λ j. found front row.kind j ≡ None) number none) in
      found_behind front (row ∷ []) k n ∙ rw (is, here, eq-eqb k row.kind (sym kind), eq-eqb n row.no (sym number)) refl
  | inr other ↦ found_behind front (row ∷ []) k n ∙ rw (other, turned row k n, other) (or_none (found front k n))
]
  where
    turned : (row : Row) (k n : ℕ) → ((k == row.kind) && (n == row.no)) ≡ ((row.kind == k) && (row.no == n))
    turned row k n = grind arith
