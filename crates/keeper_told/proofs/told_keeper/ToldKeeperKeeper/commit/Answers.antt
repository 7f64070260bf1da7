use Rattle.std.proofs.Common.{◌⊎◌, OnErr, sym, subst}
use Rattle.tracker_keeper.specs.Rows.{with_ops}
use Rattle.sqlite.specs.Held.{state}
use Rattle.keeper_told.specs.Crash.{IsLeaving}
use Rattle.keeper_told.proofs.told_keeper.ToldKeeperKeeper.commit.Goals as goal

pub returns-clause-left_err : goal.returns-clause-left_err
returns-clause-left_err g c some rows other keeping leaving =
    let new = state g.S.Store c.commit_all-done.new.conn in
    subst (λ r. OnErr r (IsLeaving new rows other ⊎ IsLeaving new rows (with_ops c.args.ops.now rows))) (sym c.counted.ensures.same)
    (c.commit_all-done.ensures.left_err some rows other keeping leaving)
