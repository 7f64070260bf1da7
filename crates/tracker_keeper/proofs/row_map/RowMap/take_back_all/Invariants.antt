use Rattle.std.proofs.Common.{◌≡◌, ◌++◌, reverse}
use Rattle.std.specs.Vec.Iter.{into_iter_items}
use Rattle.tracker_keeper.proofs.Placing.{HasDone}
use Rattle.tracker_keeper.proofs.row_map.RowMap.take_back_all.Given as goal

abbrev pub invariant-loop-back : goal.invariant-loop-back
invariant-loop-back l = record {
  can : (goal.iterator-loop-back).can_next l.back-iterator;
  finite : (goal.iterator-loop-back).is_finite l.back-iterator;
  rest : l.yielded ++ into_iter_items l.back-iterator ≡ reverse l.fn.backs.items;
  done : HasDone l.fn.self.places l.self.places l.yielded (into_iter_items l.back-iterator);
}
