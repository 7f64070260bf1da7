-- What a desk has kept.
use Rattle.std.proofs.Common.{◌≡◌, ◌≢◌, ◌<◌, ◌^◌, ℕ, List, [], ◌∷◌, Some, refl, ap, sym, subst, ◌∙◌}
use Rattle.std.specs.List.{All}
use Rattle.std.proofs.lemmas.Bool.{eq-eqb}
use Rattle.field_values.specs.Parts.{Parts}
use Rattle.tracker_keeper.specs.declared.row.Row.{Row}
use Rattle.tracker_keeper.specs.declared.row.RowOp.{RowOp}
use Rattle.tracker_keeper.specs.Rows.{Rows, no_rows, with_ops, number_of, found, IsListing}
use Rattle.tracker_machine.specs.Machine.{Machine, opening}
use Rattle.tracker_machine.specs.Tracker.{IsTracker}
use Rattle.tracker_machine.specs.Effect.{Effect, applied, IsAllowed}
use Rattle.tracker_machine.specs.Kept.{rows_of, ops_of, opening_ops, migrating_ops}
use Rattle.tracker_machine.proofs.Kept.{rows_applied, rows_opening, ops_small, opening_small, migrating_small}
use Rattle.tracker_core.specs.Desk.{HasRow}

-- a list that shows the rows and has one
pub listed_row : (rows : Rows) (list : List Row) → list ≢ [] → IsListing rows list → HasRow rows
listed_row rows [] some is = absurd (some refl)
listed_row rows (row ∷ more) some is = (row.kind, row.no, row.body, sym (is.same row.kind row.no) ∙ first) where
  first : found (row ∷ more) row.kind row.no ≡ Some row.body
  first = rw (eq-eqb row.kind row.kind refl, eq-eqb row.no row.no refl) refl

-- the numbers of what is put
pub small_ops : (ops : List RowOp) (effect : Effect) (m : Machine) → ops ≡ ops_of effect m → IsAllowed effect m → IsTracker m → All (λ op. number_of op < 2 ^ 63) ops
small_ops ops effect m is may tracker = subst (λ (os : List RowOp). All (λ op. number_of op < 2 ^ 63) os) (sym is) (ops_small effect m may tracker)

pub small_opening : (ops : List RowOp) (m : Machine) → ops ≡ opening_ops m → IsTracker m → All (λ op. number_of op < 2 ^ 63) ops
small_opening ops m is tracker = subst (λ (os : List RowOp). All (λ op. number_of op < 2 ^ 63) os) (sym is) (opening_small m tracker.few_groups)

pub small_migrating : (ops : List RowOp) (m : Machine) → ops ≡ migrating_ops m → IsTracker m → All (λ op. number_of op < 2 ^ 63) ops
small_migrating ops m is tracker = subst (λ (os : List RowOp). All (λ op. number_of op < 2 ^ 63) os) (sym is) (migrating_small m tracker)

-- the rows after what is put are those of the next state
pub rows_after : (ops : List RowOp) (effect : Effect) (m next : Machine) → ops ≡ ops_of effect m → IsAllowed effect m → IsTracker m → next ≡ applied effect m
    → with_ops ops (rows_of m) ≡ rows_of next
rows_after ops effect m next is may tracker same = ap (λ os. with_ops os (rows_of m)) is ∙ sym (rows_applied effect m may tracker) ∙ ap rows_of (sym same)

pub rows_opened : (ops : List RowOp) (text : List ℕ) (setup : Parts) → ops ≡ opening_ops (opening text setup) → with_ops ops no_rows ≡ rows_of (opening text setup)
rows_opened ops text setup is = ap (λ os. with_ops os no_rows) is ∙ rows_opening text setup
