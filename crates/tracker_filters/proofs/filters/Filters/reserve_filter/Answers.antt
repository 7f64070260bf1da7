use Rattle.jql_meaning.specs.Surroundings.{surroundings_of}
use Rattle.tracker_filters.specs.contracts.filters.Filters.{the_view}
use Rattle.tracker_filters.proofs.Watching.{only_filter_room, filter_roomier}
use Rattle.tracker_filters.proofs.filters.Filters.reserve_filter.Goals as goal

pub invariant_of-self-2 : goal.invariant_of-self-2
invariant_of-self-2 c =
    let s = c.self.inside in
    let hs = (the_view s).histories in
    let same = only_filter_room c.reserve_filter.result s.views c.reserve_filter.new.self c.reserve_filter.ensures.same c.reserve_filter.ensures.err in
    rw c.reserve.ensures.items (filter_roomier s.list.items hs (surroundings_of s.around.value) s.moment.value s.views c.reserve_filter.new.self same c.self.invariant)
