use Rattle.std.proofs.Common.{ℕ}
use Rattle.fields.specs.SetupParts.{parts}
use Rattle.tracker_keeper.specs.Rows.{Rows}
use Rattle.amended_rows.specs.Amending.{IsInTheWay}
use Rattle.tracker_amend.specs.Amend.{IsInTheWayOf}
use Rattle.tracker_amend.proofs.Amends.{told_front, told_grew}
use Rattle.tracker_amend.proofs.command.amend_to.Goals as goal

pub returns-in-Ok-clause-done : goal.returns-in-Ok-clause-done
returns-in-Ok-clause-done g c = λ is.
    let done = c.amend_told.ensures.done is in
    (done.0, λ rows kept told. done.1 rows (c.in-Ok.ensures.same rows kept) (c.in-Ok.ensures.rows (c.amend_told.ensures.told told) rows kept))

pub returns-in-Ok-clause-left : goal.returns-in-Ok-clause-left
returns-in-Ok-clause-left g c = λ is rows kept left told.
    c.amend_told.ensures.left is rows (c.in-Ok.ensures.same rows kept) (c.in-Ok.ensures.rows (c.amend_told.ensures.told told) rows kept)
    (c.in-Ok.ensures.left rows rows kept left)

pub returns-in-Ok-clause-written : goal.returns-in-Ok-clause-written
returns-in-Ok-clause-written g c = λ is.
    told_front (IsInTheWayOf c.args.setup.text (parts c.args.setup) c.in-Ok.rows.items)
    (λ (kind number : ℕ). (rows : Rows) → g.P.Keeper.keeps c.args.keeper.now rows → g.P.Keeper.tells c.amend_told.new.keeper → IsInTheWay c.args.setup.text (parts c.args.setup) rows kind number)
    _ _ (λ kind number way rows kept told. way rows (c.in-Ok.ensures.rows (c.amend_told.ensures.told told) rows kept)) (c.amend_told.ensures.written is)

pub returns-in-Ok-clause-bad : goal.returns-in-Ok-clause-bad
returns-in-Ok-clause-bad g c = λ is.
    told_grew (IsInTheWayOf c.args.setup.text (parts c.args.setup) c.in-Ok.rows.items)
    (λ (kind number : ℕ). (rows : Rows) → g.P.Keeper.keeps c.args.keeper.now rows → g.P.Keeper.tells c.amend_told.new.keeper → IsInTheWay c.args.setup.text (parts c.args.setup) rows kind number)
    _ _ (λ kind number way rows kept told. way rows (c.in-Ok.ensures.rows (c.amend_told.ensures.told told) rows kept)) (c.amend_told.ensures.bad is)
