use Rattle.std.proofs.Common.{◌≡◌, ◌++◌}
use Rattle.std.specs.Vec.Iter.{into_iter_items}
use Rattle.jql_meaning.specs.Surroundings.{surroundings_of}
use Rattle.change_history.specs.History.{histories_of}
use Rattle.tracker_loading.specs.Filtered.{HasSeen}
use Rattle.tracker_loading.proofs.filtered.asked.Given as goal

-- the filters before this one are put in
abbrev pub invariant-loop-filter : goal.invariant-loop-filter
invariant-loop-filter g l = record {
  can : (goal.iterator-loop-filter g).can_next l.filter-iterator;
  finite : (goal.iterator-loop-filter g).is_finite l.filter-iterator;
  rest : l.yielded ++ into_iter_items l.filter-iterator ≡ l.fn.filters.items;
  put : l.asked.filters ≡ l.yielded;
  seen : HasSeen (histories_of l.issues) (surroundings_of l.context) l.at l.asked;
}
