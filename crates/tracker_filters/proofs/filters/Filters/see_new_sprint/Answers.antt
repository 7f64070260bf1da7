use Rattle.std.proofs.Common.{sym, subst}
use Rattle.jql_bound.specs.declared.context.Context.{Context}
use Rattle.jql_meaning.specs.Surroundings.{surroundings_of}
use Rattle.tracker_filters.specs.Watched.{WatchedFilters, AreWatched, histories_in}
use Rattle.tracker_filters.specs.Sprint.{DifferInEmptySprint}
use Rattle.tracker_filters.proofs.Sprinting.{watched_beside}
use Rattle.tracker_filters.proofs.filters.Filters.see_new_sprint.Goals as goal

pub invariant_of-self : goal.invariant_of-self
invariant_of-self c =
    let s = c.self.inside in
    let hs = histories_in s.seen.items in
    let one = surroundings_of s.around.value in
    let other = surroundings_of c.args.context.now in
    let differ = subst (λ (w : WatchedFilters). DifferInEmptySprint w.around other w.histories) (sym c.self.view_is) c.requires in
    subst (λ (x : Context). AreWatched s.list.items s.views hs (surroundings_of x) s.moment.value) (sym c.of.ensures)
    (watched_beside s.list.items hs one other s.moment.value s.views differ c.self.invariant)
