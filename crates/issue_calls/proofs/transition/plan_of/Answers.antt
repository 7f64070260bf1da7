use Rattle.std.proofs.Common.{length}
use Rattle.issue_calls.proofs.transition.plan_of.Goals as goal

pub returns-clause-sprints : goal.returns-clause-sprints
returns-clause-sprints c = c.in_ok-net.ensures.sprints (length c.args.state.now.machine.sprints) c.in_ok-inputs.ensures.sprints
