use Rattle.std.proofs.Common.{◌≢◌, None, sym, subst}
use Rattle.jql_meaning.specs.Surroundings.{surroundings_of}
use Rattle.rising_numbers.specs.ByNumber.{by_number}
use Rattle.tracker_filters.specs.Saved.{number}
use Rattle.tracker_filters.specs.Watched.{WatchedFilters, histories_in}
use Rattle.tracker_filters.proofs.Watching.{watched_without, found_there}
use Rattle.tracker_filters.proofs.filters.Filters.remove.Goals as goal

pub remove_filter-requires : goal.remove_filter-requires
remove_filter-requires c =
    let s = c.self.inside in
    let some = subst (λ (w : WatchedFilters). by_number number c.args.no.0 w.filters ≢ None) (sym c.self.view_is) c.requires in
    found_there s.list.items (histories_in s.seen.items) (surroundings_of s.around.value) s.moment.value c.args.no.0 s.views some c.self.invariant

pub invariant_of-self : goal.invariant_of-self
invariant_of-self c =
    let s = c.self.inside in
    rw c.take_out.ensures.items
    (watched_without s.list.items (histories_in s.seen.items) (surroundings_of s.around.value) s.moment.value c.args.no.0 s.views c.remove_filter.new.self c.remove_filter.ensures c.self.invariant)
