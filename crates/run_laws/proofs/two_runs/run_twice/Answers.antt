use Rattle.std.proofs.Common.{inl}
use Rattle.setup_reading.specs.declared.built_in_text.TheConstants.{BUILT_IN}
use Rattle.tracker_cli.specs.Outcome.{HasRowsBehind}
use Rattle.run_laws.proofs.Twice.{ran, told_alike}
use Rattle.run_laws.proofs.two_runs.run_twice.Goals as goal

pub returns : goal.returns
returns g c =
    told_alike BUILT_IN.now _ _ _ _ _ _ _ _ _ _ _
    (λ input output rows m done have opened.
    ran g.P.Keeper.keeps g.P.Keeper.tells BUILT_IN.now c.args.keeper c.run-first.result.1
    (HasRowsBehind g.P.Keeper.keeps g.P.Keeper.tells g.P.Keeper.faults g.P.Keeper.leaves c.args.keeper c.run-first.result.1)
    _ _ _ _ input output rows m have opened _ _ (c.run-first.ensures.lines (inl done.exec)).done done)
    (λ input output rows m done have opened.
    ran g.P.Keeper.keeps g.P.Keeper.tells BUILT_IN.now c.args.other_keeper c.run-second.result.1
    (HasRowsBehind g.P.Keeper.keeps g.P.Keeper.tells g.P.Keeper.faults g.P.Keeper.leaves c.args.other_keeper c.run-second.result.1)
    _ _ _ _ input output rows m have opened _ _ (c.run-second.ensures.lines (inl done.exec)).done done)
