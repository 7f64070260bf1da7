use Rattle.std.proofs.Common.{◌≤◌, take, reverse, length, vec_len, vec_capacity}
use Rattle.tracker_keeper.specs.Places.{AreCarriedOut, CanTakeBack}
use Rattle.tracker_keeper.proofs.row_map.RowMap.carry_out_all.Given as goal

-- the first operations have been carried out, and can be taken back
abbrev pub invariant-loop-op : goal.invariant-loop-op
invariant-loop-op l = record {
  done : AreCarriedOut (take l.op-index l.ops) l.fn.self.places l.self.places;
  back : CanTakeBack (reverse l.backs.items) l.fn.self.places l.self.places;
  room : length l.ops ≤ vec_capacity l.backs;
  count : vec_len l.backs ≤ l.op-index;
}
