use Rattle.std.proofs.Common.{◌<◌, length}
use Rattle.filter_views.specs.Heap.{IsHeapBut}
use Rattle.filter_views.specs.Agreement.{Agree, OnlyMoves}
use Rattle.filter_views.proofs.heap.rise.Given as goal

abbrev pub invariant-loop-parent : goal.invariant-loop-parent
invariant-loop-parent l = record {
  in_range : l.at < length l.heap;
  agree : Agree l.heap l.rows;
  but : IsHeapBut l.heap l.at;
  same : OnlyMoves l.fn.heap l.fn.rows l.heap l.rows;
}

abbrev pub decreases-loop-parent : goal.decreases-loop-parent
decreases-loop-parent l = l.at
