use Rattle.std.proofs.Common.{inl}
use Rattle.setup_reading.specs.declared.built_in_text.TheConstants.{BUILT_IN}
use Rattle.run_laws.proofs.Whole.{ends_whole}
use Rattle.run_laws.proofs.whole_run.run_whole.Goals as goal

pub returns : goal.returns
returns g c =
    ends_whole g.P.Keeper.keeps g.P.Keeper.tells g.P.Keeper.faults g.P.Keeper.leaves BUILT_IN.now c.args.keeper c.run.result.1 _ _ _ _ _ _ _ _ _ _
    (λ exec. c.run.ensures.lines (inl exec))
    (record { read = c.run.ensures.read_cause; written = c.run.ensures.write_cause; kept = c.run.ensures.keeper_cause })
