use Rattle.std.proofs.Common.{[], ◌∷◌, ◌∙◌, ap}
use Rattle.tracker_keeper.specs.declared.row.RowOp.TheVariants.{Put}
use Rattle.tracker_state.specs.Rows.{present_op}
use Rattle.tracker_state.specs.State.{Held}
use Rattle.issue_calls.proofs.Grouping.{group_kept}
use Rattle.issue_calls.proofs.group.kept.Goals as goal

pub returns-clause-rows : goal.returns-clause-rows
returns-clause-rows c =
    let new = c.args.new in
    c.in_ok-rows.ensures ∙ ap (λ (s : Held). present_op s.machine.balance new.plan.group.change new.plan.group.at ∷ Put new.row ∷ []) c.take_row_room-room.ensures
    ∙ group_kept c.args.state.now.machine c.requires.0 new c.requires.1
