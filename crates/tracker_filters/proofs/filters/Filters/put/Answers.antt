use Rattle.std.proofs.Common.{◌≡◌, List, ap, sym, subst}
use Rattle.jql_meaning.specs.Surroundings.{surroundings_of}
use Rattle.jql_eval.specs.Told.{Told}
use Rattle.tracker_filters.specs.declared.filter.Filter.{Filter}
use Rattle.tracker_filters.specs.Saved.{condition_of, MayPut}
use Rattle.tracker_filters.specs.Watched.{WatchedFilters, histories_in}
use Rattle.tracker_filters.specs.Ready.{AreVerdicts}
use Rattle.tracker_filters.proofs.Watching.{watched_put, put_there}
use Rattle.tracker_filters.proofs.filters.Filters.put.Goals as goal

pub settle_filter-requires-clause-there : goal.settle_filter-requires-clause-there
settle_filter-requires-clause-there c = put_there c.self.inside.list.items c.into_parts-filter.result.0 c.put_row.new.views c.put_row.ensures.rows

pub invariant_of-self : goal.invariant_of-self
invariant_of-self c =
    let s = c.self.inside in
    let hs = histories_in s.seen.items in
    let around = surroundings_of s.around.value in
    let moment = s.moment.value in
    let f = c.into_parts-filter.result.0 in
    let told = c.into_parts-filter.result.1.items in
    let filter : f ≡ c.args.ready.filter = ap (λ p. p.0) c.into_parts-filter.ensures in
    let verdicts : told ≡ c.args.ready.verdicts.items = ap (λ p. p.1.items) c.into_parts-filter.ensures in
    let may = subst (λ (x : Filter). MayPut s.list.items x) (sym filter) (subst (λ (w : WatchedFilters). MayPut w.filters c.args.ready.filter) (sym c.self.view_is) c.requires.may) in
    let made = subst (λ (x : Filter). AreVerdicts around moment (condition_of x) hs told) (sym filter)
    (subst (λ (ts : List Told). AreVerdicts around moment (condition_of c.args.ready.filter) hs ts) (sym verdicts)
    (subst (λ (w : WatchedFilters). AreVerdicts w.around w.moment (condition_of c.args.ready.filter) w.histories c.args.ready.verdicts.items) (sym c.self.view_is) c.requires.right)) in
    rw c.put_row.ensures.filters
    (watched_put s.list.items hs around moment f told s.views c.put_row.new.views c.settle_filter.new.views may made c.put_row.ensures.rows c.put_row.ensures.issues c.put_row.ensures.cells
    (rw c.deref.ensures.value at c.settle_filter.ensures) c.self.invariant)
