use Rattle.std.proofs.Common.{◌≡◌, ◌-◌, length, slice_get, Some, ap, ◌∙◌, arith}
use Rattle.change_history.specs.History.{History}
use Rattle.tracker_work.proofs.Lent.{last_is}
use Rattle.tracker_work.proofs.Steps.{issue_may}
use Rattle.tracker_work.proofs.work.Work.see_issue.Goals as goal

pub tell-requires-clause-change : goal.tell-requires-clause-change
tell-requires-clause-change c =
    let items = c.args.issues.now.items in
    let found : slice_get items (c.len.result - 1) ≡ Some c.issue_at-issue.result.now = rw c.deref.ensures.value at c.issue_at-issue.ensures in
    let place : c.len.result - 1 ≡ length items - 1 = omega (arith, c.len.ensures, c.deref.ensures.len, ap length c.deref.ensures.value) in
    let is = last_is items c.args.self.now.seen.histories c.requires.issue c.requires.last (c.len.result - 1) c.issue_at-issue.result.now place found in
    c.change.ensures ∙ ap (λ (h : History). h.change) is ∙ c.requires.may.number

pub tell-requires-clause-told : goal.tell-requires-clause-told
tell-requires-clause-told c =
    let w = c.args.self.now in
    let items = c.args.issues.now.items in
    let found : slice_get items (c.len.result - 1) ≡ Some c.issue_at-issue.result.now = rw c.deref.ensures.value at c.issue_at-issue.ensures in
    let place : c.len.result - 1 ≡ length items - 1 = omega (arith, c.len.ensures, c.deref.ensures.len, ap length c.deref.ensures.value) in
    let is = last_is items w.seen.histories c.requires.issue c.requires.last (c.len.result - 1) c.issue_at-issue.result.now place found in
    rw (c.change.ensures, c.created.ensures, is, c.requires.may.number, c.requires.last) (issue_may w c.is_work.ensures c.steps_of_histories.ensures.creation c.requires.issue c.requires.may)
