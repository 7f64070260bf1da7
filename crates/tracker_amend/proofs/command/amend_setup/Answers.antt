use Rattle.std.proofs.Common.{Err, ap, ◌∙◌}
use Rattle.tracker_amend.specs.Amend.{HasInTheWay}
use Rattle.tracker_amend.proofs.Amends.{limit_front, whole_front, whole_left, whole_row}
use Rattle.tracker_amend.proofs.command.amend_setup.Goals as goal

pub returns-in-Ok-clause-written : goal.returns-in-Ok-clause-written
returns-in-Ok-clause-written g c = λ is.
    whole_front (HasInTheWay g.P.Keeper.keeps g.P.Keeper.tells c.args.keeper.now c.amend_by.new.keeper) _ _ _ _ _ _ c.in-Ok.ensures.whole c.in-Ok.ensures.end
    c.deref.ensures.value (c.amend_by.ensures.written is)

pub returns-in-Ok-clause-left : goal.returns-in-Ok-clause-left
returns-in-Ok-clause-left g c = λ is.
    whole_left g.P.Keeper.keeps g.P.Keeper.tells g.P.Keeper.leaves c.args.keeper.now c.amend_by.new.keeper _ _ _ _ c.in-Ok.ensures.whole c.in-Ok.ensures.end
    c.deref.ensures.value (c.amend_by.ensures.left is)

pub returns-in-Ok-clause-bad : goal.returns-in-Ok-clause-bad
returns-in-Ok-clause-bad g c = λ is.
    whole_row (HasInTheWay g.P.Keeper.keeps g.P.Keeper.tells c.args.keeper.now c.amend_by.new.keeper) _ _ _ _ _ _ c.in-Ok.ensures.whole c.in-Ok.ensures.end
    c.deref.ensures.value (c.amend_by.ensures.bad is)

pub returns-in-Err-TooLong-clause-written : goal.returns-in-Err-TooLong-clause-written
returns-in-Err-TooLong-clause-written g c = λ is.
    limit_front (HasInTheWay g.P.Keeper.keeps g.P.Keeper.tells c.args.keeper.now c.args.keeper.now) _ _ _ (c.read_whole.ensures.long (c.in-Err-TooLong.is ∙ ap Err c.in-Err-TooLong.field-0-is))
    (c.tell.ensures.written is)
