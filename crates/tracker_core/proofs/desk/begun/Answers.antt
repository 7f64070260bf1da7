use Rattle.std.proofs.Common.{◌⊎◌, inl, ◌∙◌, subst}
use Rattle.fields.specs.SetupParts.{parts}
use Rattle.tracker_keeper.specs.Rows.{no_rows}
use Rattle.tracker_machine.specs.Machine.{opening}
use Rattle.tracker_machine.specs.Tracker.{IsTracker}
use Rattle.tracker_core.proofs.Desks.{small_opening, rows_opened}
use Rattle.tracker_core.proofs.Left.{some_opening}
use Rattle.tracker_core.proofs.desk.begun.Goals as goal

pub commit-requires : goal.commit-requires
commit-requires g c = record { numbers = small_opening c.deref.result.now (opening c.args.setup.text (parts c.args.setup)) (c.deref.ensures.value ∙ c.in-Ok.ensures) (subst IsTracker c.in-Ok-opening.ensures c.is_tracker.ensures) }

pub returns-in-Ok-commit-clause-rows : goal.returns-in-Ok-commit-clause-rows
returns-in-Ok-commit-clause-rows g c = λ empty.
    subst (g.P.Keeper.keeps c.commit.new.self) (rows_opened c.deref.result.now c.args.setup.text (parts c.args.setup) (c.deref.ensures.value ∙ c.in-Ok.ensures))
    (c.in-Ok-commit.ensures.done no_rows empty)

pub returns-in-Ok-commit-clause-left_ok : goal.returns-in-Ok-commit-clause-left_ok
returns-in-Ok-commit-clause-left_ok g c = λ empty.
    subst (λ rows. g.P.Keeper.leaves c.commit.new.self rows rows) (rows_opened c.deref.result.now c.args.setup.text (parts c.args.setup) (c.deref.ensures.value ∙ c.in-Ok.ensures))
    (c.in-Ok-commit.ensures.left_ok no_rows empty)

pub returns-clause-left_err : goal.returns-clause-left_err
returns-clause-left_err g c = λ empty left.
    let ops = c.deref.result.now in
    let new = c.commit.new.self in
    let is = c.deref.ensures.value ∙ c.in-Ok.ensures in
    subst (λ rows. g.P.Keeper.leaves new no_rows no_rows ⊎ g.P.Keeper.leaves new no_rows rows) (rows_opened ops c.args.setup.text (parts c.args.setup) is)
    (c.in-Err.ensures.left_err (some_opening ops _ is) no_rows no_rows empty left)

pub returns-in_default-clause-left_err : goal.returns-in_default-clause-left_err
returns-in_default-clause-left_err g c = λ empty left. inl left

pub returns-in_default-opening-clause-left_err : goal.returns-in_default-opening-clause-left_err
returns-in_default-opening-clause-left_err g c = λ empty left. inl left
