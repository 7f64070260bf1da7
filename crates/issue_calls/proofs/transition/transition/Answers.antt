use Rattle.std.proofs.Common.{List, subst}
use Rattle.std.specs.Prelude.{Ok}
use Rattle.tracker_calls.specs.declared.given.GivenField.{GivenField}
use Rattle.tracker_machine.specs.Transition.{transition_answer, transition_meaning}
use Rattle.issue_calls.specs.Group.{ComesToGroup}
use Rattle.issue_calls.proofs.transition.transition.Goals as goal

pub returns-clause-prepared : goal.returns-clause-prepared
returns-clause-prepared c =
    let m = c.args.state.now.machine in
    let issue = c.args.issue.now in
    let name = c.args.transition.now in
    c.ready.ensures.prepared (transition_meaning m c.args.caller.0 issue name c.args.set.now)
    (subst (λ (set : List GivenField). ComesToGroup m (transition_answer issue) (transition_meaning m c.args.caller.0 issue name set) (Ok c.in_ok-due.field-0)) c.in_ok-given.ensures.set
    c.in_ok-due.ensures)
