use Rattle.std.proofs.Common.{◌≤◌, ◌+◌, subst}
use Rattle.tracker_calls.specs.declared.call.Call.TheVariants as call
use Rattle.tracker_core.specs.Desk.{due_in}
use Rattle.tracker_machine.specs.Machine.{Machine}
use Rattle.tracker_machine.specs.Step.{evaluations}
use Rattle.written_shows.proofs.Lists.{list_within}
use Rattle.written_shows.proofs.list.write_list.Goals as goal

pub returns-clause-steps : goal.returns-clause-steps
returns-clause-steps g c =
    let ended = due_in c.args.desk.now.cells in
    subst (λ (m : Machine). c.write_issue_list.new.steps ≤ c.args.steps.now + evaluations ended m c.args.caller.now (call.List c.args.jql.now c.args.fields.now c.args.part)) c.state-state.ensures.machine
    (list_within c.state-state.result.now.machine c.args.caller.now c.args.jql.now c.args.fields.now c.args.part ended c.in-Some-user_named.user.0
    c.args.steps.now c.write_issue_list.new.steps c.in_default.ensures c.in-Some-user_named.ensures.place c.write_issue_list.ensures.steps)
