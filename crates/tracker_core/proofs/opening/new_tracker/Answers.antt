use Rattle.std.proofs.Common.{inl, ap}
use Rattle.fields.specs.SetupParts.{parts}
use Rattle.tracker_machine.specs.Machine.{opening}
use Rattle.tracker_core.proofs.Left.{new_just, new_leaves}
use Rattle.tracker_core.proofs.opening.new_tracker.Goals as goal

pub returns-in-Ok-clause-left_ok : goal.returns-in-Ok-clause-left_ok
returns-in-Ok-clause-left_ok g c = λ empty.
    let setup = c.in-Ok.setup in
    new_just g.P.Keeper.leaves (λ s. s.machine) c.begun.result (opening setup.text (parts setup)) c.begun.new.keeper c.begun.ensures.state (c.begun.ensures.left_ok empty)

pub returns-in-Ok-clause-left_err : goal.returns-in-Ok-clause-left_err
returns-in-Ok-clause-left_err g c = λ empty left.
    let setup = c.in-Ok.setup in
    new_leaves g.P.Keeper.leaves c.begun.result _ (opening setup.text (parts setup)) c.begun.new.keeper
    (parts setup, c.in-Ok.ensures.parts, ap (λ text. opening text (parts setup)) c.in-Ok.ensures.text) (c.begun.ensures.left_err empty left)

pub returns-in-Err-clause-left_err : goal.returns-in-Err-clause-left_err
returns-in-Err-clause-left_err g c = λ empty left. inl left
