-- What is kept of a restore that is done, and why nothing is where it isn't.
use Rattle.std.proofs.Common.{◌≡◌, ℕ, List, map, Ok, Err, sym, ap, ◌∙◌, subst}
use Rattle.std.specs.Prelude.{Result, OnOk, IfErr, AllPairs}
use Rattle.tracker_keeper.specs.declared.row.Row.{Row}
use Rattle.tracker_keeper.specs.declared.row.RowOp.{RowOp}
use Rattle.tracker_keeper.specs.declared.row.RowOp.TheVariants.{Put}
use Rattle.tracker_keeper.specs.Rows.{Rows, IsBelow, found, no_rows, with_ops}
use Rattle.row_dumps.proofs.Placed.{puts_found}

-- rows that were put where there were none are kept
pub kept_puts : (keeps : Rows → Type 0) (ops : List RowOp) (list : List Row) → ops ≡ map Put list → AllPairs IsBelow list → keeps (with_ops ops no_rows) → keeps (found list)
kept_puts keeps ops list is rising has = subst keeps (ap (λ os. with_ops os no_rows) is ∙ puts_found list rising) has

pub kept_all : {T E : Type 0} (r : Result T E) (keeps : Rows → Type 0) (ops : List RowOp) (list : List Row) → ops ≡ map Put list → AllPairs IsBelow list → OnOk r (keeps (with_ops ops no_rows)) → OnOk r (keeps (found list))
kept_all (Ok x) keeps ops list is rising has = kept_puts keeps ops list is rising has
kept_all (Err e) keeps ops list is rising has = tt
