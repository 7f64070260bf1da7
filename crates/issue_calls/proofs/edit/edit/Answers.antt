use Rattle.std.proofs.Common.{List, subst}
use Rattle.std.specs.Prelude.{Ok}
use Rattle.tracker_calls.specs.declared.given.GivenField.{GivenField}
use Rattle.tracker_machine.specs.Edit.{edit_answer, edit_meaning}
use Rattle.issue_calls.specs.Group.{ComesToGroup}
use Rattle.issue_calls.proofs.edit.edit.Goals as goal

pub returns-clause-prepared : goal.returns-clause-prepared
returns-clause-prepared c =
    let m = c.args.state.now.machine in
    let issue = c.args.issue.now in
    c.ready.ensures.prepared (edit_meaning m c.args.caller.0 issue c.args.set.now)
    (subst (λ (set : List GivenField). ComesToGroup m (edit_answer issue) (edit_meaning m c.args.caller.0 issue set) (Ok c.in_ok-due.field-0)) c.in_ok-given.ensures.set
    c.in_ok-due.ensures)
