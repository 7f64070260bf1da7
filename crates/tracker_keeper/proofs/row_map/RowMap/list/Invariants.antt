use Rattle.std.proofs.Common.{◌≡◌, ◌++◌}
use Rattle.tracker_keeper.specs.Places.{listed}
use Rattle.tracker_keeper.proofs.row_map.RowMap.list.Given as goal

-- the rows so far, and those of the places that are left
abbrev pub invariant-loop-place : goal.invariant-loop-place
invariant-loop-place l = listed l.self.places.entries ≡ l.rows.items ++ listed l.place-iterator
