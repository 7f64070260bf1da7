use Rattle.std.proofs.Common.{length, refl, ap}
use Rattle.std.proofs.lemmas.Option.{slice_get_read}
use Rattle.tracker_filters.specs.Watched.{WatchedFilters}
use Rattle.tracker_loading.proofs.Following.{next_number}
use Rattle.tracker_loading.proofs.filtered.none_on.Goals as goal

pub see_new-requires-clause-next : goal.see_new-requires-clause-next
see_new-requires-clause-next g c =
    let issues = c.args.issues.now in
    let k = c.loop-issue.issue-index in
    let at = slice_get_read issues (length issues) k c.issue-item.result refl c.loop-issue-test.true c.issue-item.is in
    next_number issues k c.issue-item.result c.loop-issue.asked c.reserve_issue.new.self c.requires at c.loop-issue.invariant.seen.histories_are
    (ap (λ (w : WatchedFilters). w.histories) c.in_ok-reserve_issue.ensures.same)
