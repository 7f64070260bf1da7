use Rattle.std.proofs.Common.{refl, sym, subst}
use Rattle.fields.specs.SetupParts.{parts}
use Rattle.tracker_machine.specs.Machine.{opening}
use Rattle.tracker_machine.specs.Kept.{rows_of}
use Rattle.tracker_cli.proofs.init.create.Goals as goal

pub returns-in-Ok-clause-done : goal.returns-in-Ok-clause-done
returns-in-Ok-clause-done g c = λ _. (
  refl,
  λ empty. subst (λ k. g.P.Keeper.keeps k (rows_of (opening c.args.setup.text (parts c.args.setup)))) (sym c.close.ensures) (c.in-Ok.ensures.rows empty),
  λ rows kept told. c.in-Ok.ensures.none rows kept (subst g.P.Keeper.tells c.close.ensures told),
)
