use Rattle.std.proofs.Common.{◌≡◌, ◌≤◌, List, rules, sym, subst}
use Rattle.field_values.specs.Years.{last_second}
use Rattle.change_history.specs.History.{History, histories_of}
use Rattle.jql_meaning.specs.Surroundings.{Surroundings, surroundings_of}
use Rattle.tracker_filters.specs.Watched.{WatchedFilters, histories_in}
use Rattle.tracker_filters.specs.Cells.{ArePending}
use Rattle.tracker_filters.proofs.Watching.{begins}
use Rattle.tracker_filters.proofs.filters.Filters.see_moment.Goals as goal

pub catch_up-requires-clause-pending : goal.catch_up-requires-clause-pending
catch_up-requires-clause-pending g c =
    let s = c.self.inside in
    let hs = histories_in s.seen.items in
    let around = surroundings_of s.around.value in
    let same_around : surroundings_of c.args.context.now ≡ around = subst (λ (w : WatchedFilters). surroundings_of c.args.context.now ≡ w.around) (sym c.self.view_is) c.requires.around in
    let same : histories_of c.args.issues.now ≡ hs = subst (λ (w : WatchedFilters). histories_of c.args.issues.now ≡ w.histories) (sym c.self.view_is) c.requires.issues in
    let later : s.moment.value ≤ c.args.to = subst (λ (w : WatchedFilters). w.moment ≤ c.args.to) (sym c.self.view_is) c.requires.later in
    let known : c.args.to ≤ last_second = search rules in
    rw c.deref.ensures.value
    (subst (λ (a : Surroundings). ArePending a c.args.to (histories_of c.args.issues.now) s.list.items s.views) (sym same_around)
    (subst (λ (all : List History). ArePending around c.args.to all s.list.items s.views) (sym same)
    (begins s.list.items hs around s.moment.value c.args.to s.views later known c.self.invariant)))
