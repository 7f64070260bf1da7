use Rattle.std.proofs.Common.{inr}
use Rattle.setup_reading.specs.declared.built_in_text.TheConstants.{BUILT_IN}
use Rattle.whole_laws.proofs.Commands.{all_are_checked, all_are_imported, all_is_exported, all_is_loaded, is_made, none_is_refused, usage_is_told}
use Rattle.whole_laws.proofs.command.run_command.Goals as goal

pub returns-clause-usage : goal.returns-clause-usage
returns-clause-usage g c = usage_is_told _ _ _ _ _ _ _ _ _ _ c.run.ensures.write_cause c.run.ensures.usage

pub returns-clause-check : goal.returns-clause-check
returns-clause-check g c =
    all_are_checked g.P.Keeper.keeps g.P.Keeper.tells g.P.Keeper.faults g.P.Keeper.leaves BUILT_IN.now c.args.keeper c.run.result.1 _ _ _ _ _ _ _ _ _ _
    (record { read = c.run.ensures.read_cause; written = c.run.ensures.write_cause; kept = c.run.ensures.keeper_cause }) (λ check. c.run.ensures.lines (inr check))

pub returns-clause-init : goal.returns-clause-init
returns-clause-init g c =
    is_made g.P.Keeper.keeps g.P.Keeper.tells g.P.Keeper.faults g.P.Keeper.leaves BUILT_IN.now c.args.keeper c.run.result.1 _ _ _ _ _ _ _ _ _ _
    (record { read = c.run.ensures.read_cause; written = c.run.ensures.write_cause; kept = c.run.ensures.keeper_cause }) c.run.ensures.init

pub returns-clause-export : goal.returns-clause-export
returns-clause-export g c =
    all_is_exported g.P.Keeper.keeps g.P.Keeper.tells g.P.Keeper.faults g.P.Keeper.leaves BUILT_IN.now c.args.keeper c.run.result.1 _ _ _ _ _ _ _ _ _ _
    (record { read = c.run.ensures.read_cause; written = c.run.ensures.write_cause; kept = c.run.ensures.keeper_cause }) c.run.ensures.export

pub returns-clause-import : goal.returns-clause-import
returns-clause-import g c =
    all_are_imported g.P.Keeper.keeps g.P.Keeper.tells g.P.Keeper.faults g.P.Keeper.leaves BUILT_IN.now c.args.keeper c.run.result.1 _ _ _ _ _ _ _ _ _ _
    (record { read = c.run.ensures.read_cause; written = c.run.ensures.write_cause; kept = c.run.ensures.keeper_cause }) c.run.ensures.import

pub returns-clause-generate : goal.returns-clause-generate
returns-clause-generate g c =
    all_is_loaded g.P.Keeper.keeps g.P.Keeper.tells g.P.Keeper.faults g.P.Keeper.leaves BUILT_IN.now c.args.keeper c.run.result.1 _ _ _ _ _ _ _ _ _ _
    (record { read = c.run.ensures.read_cause; written = c.run.ensures.write_cause; kept = c.run.ensures.keeper_cause }) c.run.ensures.generate

pub returns-clause-kept : goal.returns-clause-kept
returns-clause-kept g c =
    none_is_refused g.P.Keeper.keeps g.P.Keeper.tells g.P.Keeper.faults g.P.Keeper.leaves c.args.keeper c.run.result.1 _ c.run.ensures.keeper_cause
