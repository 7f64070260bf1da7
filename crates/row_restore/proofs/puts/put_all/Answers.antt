use Rattle.std.proofs.Common.{◌∙◌}
use Rattle.tracker_keeper.specs.Rows.{no_rows}
use Rattle.row_restore.proofs.Faults.{kept_all}
use Rattle.row_restore.proofs.puts.put_all.Goals as goal

pub returns-clause-done : goal.returns-clause-done
returns-clause-done g c none =
    kept_all c.commit.result (g.P.Keeper.keeps c.commit.new.self) c.deref.result.now c.args.rows.items (c.deref.ensures.value ∙ c.in-Ok.ensures) c.requires.rising (c.commit.ensures.done no_rows none)
