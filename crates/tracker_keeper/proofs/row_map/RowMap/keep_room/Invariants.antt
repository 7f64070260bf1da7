use Rattle.std.proofs.Common.{◌≡◌, vec_len}
use Rattle.tracker_keeper.proofs.row_map.RowMap.keep_room.Given as goal

-- no place has changed
abbrev pub invariant-loop-back : goal.invariant-loop-back
invariant-loop-back l = l.self.places ≡ l.fn.self.places

abbrev pub decreases-loop-back : goal.decreases-loop-back
decreases-loop-back l = vec_len l.backs
