use Rattle.std.proofs.Common.{subst, sym}
use Rattle.std.specs.Prelude.{Ok}
use Rattle.tracker_machine.specs.Edit.{edit_answer, edit_meaning}
use Rattle.tracker_machine.specs.Meaning.{Meaning}
use Rattle.issue_calls.specs.Group.{ComesToGroup}
use Rattle.issue_calls.proofs.Grouping.{comes_to_group, edit_means}
use Rattle.issue_calls.proofs.edit.due_for.Goals as goal

pub returns-in-Ok : goal.returns-in-Ok
returns-in-Ok c =
    let m = c.args.state.now.machine in
    let found = c.in_ok-found.found in
    let net = c.in_ok-found.net in
    let is = c.in_ok-found.ensures in
    subst (λ (due : Meaning). ComesToGroup m (edit_answer c.args.issue.now) due (Ok c.in-Ok.due))
    (sym (edit_means m c.args.caller.0 c.args.issue.now c.args.set.now.set found.place found.issue.now.history net.items is.check is.place is.may.there is.net))
    (comes_to_group m (edit_answer c.args.issue.now) c.args.caller.0 found.place found.issue.now.history net.items c.in-Ok.due c.in-Ok.ensures)
