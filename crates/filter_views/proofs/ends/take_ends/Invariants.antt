use Rattle.std.proofs.Common.{◌≡◌, vec_capacity}
use Rattle.filter_views.specs.Agreement.{TakesEnds}
use Rattle.filter_views.proofs.ends.take_ends.Given as goal

abbrev pub invariant-loop-at : goal.invariant-loop-at
invariant-loop-at l = record {
  taken : TakesEnds l.fn.heap.items l.fn.rows l.heap.items l.rows l.filter.0 l.at;
  capacity : vec_capacity l.heap ≡ vec_capacity l.fn.heap;
}
