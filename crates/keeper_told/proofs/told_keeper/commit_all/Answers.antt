use Rattle.std.proofs.Common.{Err}
use Rattle.tracker_keeper.specs.Rows.{with_ops}
use Rattle.sqlite.specs.Held.{state}
use Rattle.keeper_told.proofs.Leaving.{either_leaving}
use Rattle.keeper_told.proofs.told_keeper.commit_all.Goals as goal

pub returns-in-Err-clause-left_err : goal.returns-in-Err-clause-left_err
returns-in-Err-clause-left_err g c some rows other keeping leaving =
    either_leaving {X = Unit {0}} (state g.S.Store c.args.conn.now) (state g.S.Store c.commit.new.conn) (Err c.in-Err.error) rows (with_ops c.args.ops.now rows) other c.lacks_table.ensures.live
    (λ db opened may. g.met.S.Store.settled c.args.conn.now.store db opened may) keeping c.commit.ensures.clean (λ clean opened. c.commit.ensures.crash clean opened rows keeping)
    (λ clean closed. c.commit.ensures.shut clean closed some) leaving
