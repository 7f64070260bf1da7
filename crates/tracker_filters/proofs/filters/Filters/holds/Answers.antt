use Rattle.std.proofs.Common.{◌≡◌, IfSome, subst}
use Rattle.jql_meaning.specs.Surroundings.{surroundings_of, numbered}
use Rattle.jql_meaning.specs.Truth.{query_holds}
use Rattle.filter_views.specs.Cell.{cell_of}
use Rattle.rising_numbers.specs.ByNumber.{by_number}
use Rattle.tracker_filters.specs.Saved.{number, condition_of}
use Rattle.tracker_filters.specs.Watched.{WatchedFilters, histories_in}
use Rattle.tracker_filters.proofs.Watching.{holds_told}
use Rattle.tracker_filters.proofs.filters.Filters.holds.Goals as goal

pub returns : goal.returns
returns c =
    let s = c.self.inside in
    rw c.holds.ensures
    (subst (λ (w : WatchedFilters). IfSome (by_number number c.args.no.0 w.filters) (λ f. IfSome (numbered w.histories c.args.issue.0) (λ h. (cell_of s.views c.args.no.0 c.args.issue.0).holds ≡ query_holds w.around h w.moment (condition_of f)))) c.self.view_is
    (holds_told s.list.items (histories_in s.seen.items) (surroundings_of s.around.value) s.moment.value c.args.no.0 c.args.issue.0 s.views c.self.invariant))
