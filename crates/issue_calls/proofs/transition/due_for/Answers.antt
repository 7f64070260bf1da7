use Rattle.std.proofs.Common.{subst, sym}
use Rattle.std.specs.Prelude.{Ok}
use Rattle.tracker_machine.specs.Transition.{transition_answer, transition_meaning}
use Rattle.tracker_machine.specs.Meaning.{Meaning}
use Rattle.issue_calls.specs.Group.{ComesToGroup}
use Rattle.issue_calls.proofs.Grouping.{comes_to_group, transition_means}
use Rattle.issue_calls.proofs.transition.due_for.Goals as goal

pub returns-in-Ok : goal.returns-in-Ok
returns-in-Ok c =
    let m = c.args.state.now.machine in
    let found = c.in_ok-found.found in
    let net = c.in_ok-found.net in
    let is = c.in_ok-found.ensures in
    subst (λ (due : Meaning). ComesToGroup m (transition_answer c.args.issue.now) due (Ok c.in-Ok.due))
    (sym (transition_means m c.args.caller.0 c.args.issue.now c.args.transition.now c.args.set.now.set found.place found.issue.now.history net.items is.check is.place is.may.there is.net))
    (comes_to_group m (transition_answer c.args.issue.now) c.args.caller.0 found.place found.issue.now.history net.items c.in-Ok.due c.in-Ok.ensures)
