use Rattle.std.proofs.Common.{◌≡◌, slice_get, Some}
use Rattle.burndown.specs.ChartLaws.{with_entries}
use Rattle.tracker_work.proofs.Lent.{changed_is}
use Rattle.tracker_work.proofs.Steps.{group_may}
use Rattle.tracker_work.proofs.work.Work.see_group.Goals as goal

pub tell-requires-clause-told : goal.tell-requires-clause-told
tell-requires-clause-told c =
    let w = c.args.self.now in
    let items = c.args.issues.now.items in
    let found : slice_get items c.args.place ≡ Some c.issue_at-issue.result.now = rw c.deref.ensures.value at c.issue_at-issue.ensures in
    let after = with_entries c.requires.group.issue c.requires.group.entries in
    let is = changed_is items w.seen.histories c.args.place c.requires.group.issue after c.requires.group.there c.requires.group.grown c.issue_at-issue.result.now found in
    rw (is, c.requires.change, c.requires.group.may.before_is, c.requires.group.grown)
    (group_may w c.is_work.ensures c.steps_of_histories.ensures.addition c.args.place c.requires.group.issue c.args.before c.args.at c.requires.group.author c.requires.group.entries c.requires.group.there c.requires.group.may)
