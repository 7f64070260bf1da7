use Rattle.jql_meaning.specs.Surroundings.{surroundings_of}
use Rattle.tracker_filters.specs.contracts.filters.Filters.{the_view}
use Rattle.tracker_filters.proofs.Watching.{only_issue_room, issue_roomier}
use Rattle.tracker_filters.proofs.filters.Filters.reserve_issue.Goals as goal

pub invariant_of-self-2 : goal.invariant_of-self-2
invariant_of-self-2 c =
    let s = c.self.inside in
    let hs = (the_view s).histories in
    let same = only_issue_room c.reserve_issue.result s.views c.reserve_issue.new.self c.reserve_issue.ensures.same c.reserve_issue.ensures.err in
    rw c.reserve.ensures.items (issue_roomier s.list.items hs (surroundings_of s.around.value) s.moment.value s.views c.reserve_issue.new.self same c.self.invariant)
