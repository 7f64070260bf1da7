use Rattle.std.proofs.Common.{◌<◌, ◌-◌, length}
use Rattle.filter_views.specs.Heap.{IsHeapBut, IsLow}
use Rattle.filter_views.specs.Agreement.{Agree, OnlyMoves}
use Rattle.filter_views.proofs.heap.sink.Given as goal

abbrev pub invariant-loop-child : goal.invariant-loop-child
invariant-loop-child l = record {
  in_range : l.at < length l.heap;
  agree : Agree l.heap l.rows;
  but : IsHeapBut l.heap l.at;
  low : IsLow l.heap l.at;
  same : OnlyMoves l.fn.heap l.fn.rows l.heap l.rows;
}

abbrev pub decreases-loop-child : goal.decreases-loop-child
decreases-loop-child l = length l.heap - l.at
