use Rattle.std.specs.Prelude.{◌≡◌, ◌++◌, map}
use Rattle.std.specs.Vec.Iter.{into_iter_items}
use Rattle.tracker_keeper.specs.declared.row.RowOp.TheVariants.{Put}
use Rattle.row_amend.proofs.trial.puts.Given as goal

abbrev pub invariant-loop-row : goal.invariant-loop-row
invariant-loop-row l = (l.ops.items ≡ map Put l.yielded) × (l.fn.rows.items ≡ l.yielded ++ into_iter_items l.row-iterator)
