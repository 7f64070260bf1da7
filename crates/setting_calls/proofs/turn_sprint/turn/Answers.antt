use Rattle.std.proofs.Common.{Option, sym, subst}
use Rattle.sprints.specs.declared.state.SprintState.{SprintState}
use Rattle.tracker_machine.specs.Sprints.{turned}
use Rattle.tracker_state.specs.Plan.{IsPrepared}
use Rattle.setting_calls.proofs.turn_sprint.turn.Goals as goal

pub returns-in-Some : goal.returns-in-Some
returns-in-Some c =
    subst (λ (o : Option SprintState). IsPrepared (turned c.args.sprint c.args.kept o) c.args.state.now c.turn_to.result) (sym c.in-Some.is)
    (c.turn_to.ensures c.args.kept)
