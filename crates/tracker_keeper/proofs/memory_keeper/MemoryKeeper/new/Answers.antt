use Rattle.std.proofs.Common.{sym, ◌∙◌}
use Rattle.tracker_keeper.specs.Rows.{no_rows}
use Rattle.tracker_keeper.specs.Places.{content}
use Rattle.tracker_keeper.proofs.Placing.{ops_same}
use Rattle.tracker_keeper.proofs.memory_keeper.MemoryKeeper.new.Goals as goal

pub returns-clause-rows : goal.returns-clause-rows
returns-clause-rows c = λ k n. sym (c.in_ok-commit.ensures.done k n ∙ ops_same c.args.ops.now (content c.new-rows.result.places) no_rows c.new-rows.ensures k n)
