use Rattle.std.proofs.Common.{Some, ap, refl, ◌∙◌}
use Rattle.setup_reading.specs.declared.built_in_text.TheConstants.{BUILT_IN}
use Rattle.tracker_cli.specs.Commands.{IsBegun, IsGenerated}
use Rattle.tracker_cli.proofs.Loads.{ends_at}
use Rattle.tracker_cli.proofs.WordLists.{same_load}
use Rattle.tracker_cli.proofs.command.run.Goals as goal

pub returns-in-Generate-clause-generate : goal.returns-in-Generate-clause-generate
returns-in-Generate-clause-generate g c = λ n is.
    let asked = rw (c.in-Some.is ∙ ap Some c.in-Generate.is) at c.in-Ok.ensures in
    let done = c.generate.ensures in
    ends_at
    (IsGenerated g.P.Keeper.keeps g.P.Keeper.tells g.P.Keeper.faults BUILT_IN.now c.args.keeper c.generate.result.1)
    (IsBegun g.P.Keeper.keeps g.P.Keeper.tells g.P.Keeper.faults BUILT_IN.now c.args.keeper c.generate.result.1)
    _ _ _ _ _ _ _ _ _ (same_load _ _ n asked is)
    (record { done = done.done; written = done.written; unkept = done.unkept; memory = done.memory; held_is = done.held; unread = refl; statuses = done.statuses })
