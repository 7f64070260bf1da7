use Rattle.std.proofs.Common.{inl, sym, subst}
use Rattle.tracker_keeper.specs.Rows.{no_rows}
use Rattle.fields.specs.SetupParts.{parts}
use Rattle.tracker_machine.specs.Machine.{opening}
use Rattle.tracker_core.proofs.Kept.{without_rows}
use Rattle.tracker_core.specs.Left.{LeavesJustIts}
use Rattle.tracker_core.proofs.Left.{created_leaves}
use Rattle.tracker_core.proofs.desk.Desk.create.Goals as goal

pub returns-in-Ok-clause-none : goal.returns-in-Ok-clause-none
returns-in-Ok-clause-none g c = λ rows kept tells.
    c.in_default.ensures.none rows kept (c.begun-opened.ensures.told (subst g.P.Keeper.tells c.over.ensures.keeper tells))

pub returns-in-Err-opened-clause-left_err : goal.returns-in-Err-opened-clause-left_err
returns-in-Err-opened-clause-left_err g c = λ rows kept left told.
    let none = c.in_default.ensures.none rows kept (c.begun-opened.ensures.told told) in
    let is = without_rows rows none in
    created_leaves g.P.Keeper.leaves (opening c.args.setup.text (parts c.args.setup)) c.begun-opened.new.keeper rows none
    (c.in-Err-opened.ensures.left_err (subst (g.P.Keeper.keeps c.look.new.keeper) is (c.look.ensures.same rows kept)) (subst (λ r. g.P.Keeper.leaves c.look.new.keeper r r) is (c.look.ensures.left rows kept left)))

pub returns-in-Err-clause-left_err : goal.returns-in-Err-clause-left_err
returns-in-Err-clause-left_err g c = λ rows kept left told. inl (c.look.ensures.left rows kept left)

pub returns-in-Ok-clause-left_ok : goal.returns-in-Ok-clause-left_ok
returns-in-Ok-clause-left_ok g c = λ empty.
    subst (λ k. LeavesJustIts g.P.Keeper.leaves k (opening c.args.setup.text (parts c.args.setup))) (sym c.over.ensures.keeper)
    (c.in-Ok.ensures.left_ok (c.look.ensures.same no_rows empty))
