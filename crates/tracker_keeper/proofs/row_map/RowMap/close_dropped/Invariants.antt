use Rattle.std.proofs.Common.{◌≡◌, ℕ}
use Rattle.tracker_keeper.specs.Places.{content}
use Rattle.tracker_keeper.proofs.row_map.RowMap.close_dropped.Given as goal

-- no row has changed
abbrev pub invariant-loop-op : goal.invariant-loop-op
invariant-loop-op l = (k n : ℕ) → content l.self.places k n ≡ content l.fn.self.places k n
