use Rattle.std.proofs.Common.{inl}
use Rattle.setup_reading.specs.declared.built_in_text.TheConstants.{BUILT_IN}
use Rattle.fields.specs.SetupParts.{parts}
use Rattle.tracker_cli.proofs.Loads.{all_generated, front_generated, begun}
use Rattle.tracker_cli.proofs.generate.generate.Goals as goal

pub returns-in-Ok-create-clause-done : goal.returns-in-Ok-create-clause-done
returns-in-Ok-create-clause-done g c = λ is.
    all_generated g.P.Keeper.keeps g.P.Keeper.tells g.P.Keeper.faults BUILT_IN.now c.args.keeper c.in-Ok-create.desk (parts c.in-Ok.setup) c.in-Ok.setup.text
    c.in-Ok.ensures.parts c.in-Ok.ensures.text c.in-Ok-create.ensures.state c.in-Ok-create.ensures.rows c.in-Ok-create.ensures.none c.in-Ok-create.ensures.later_ok
    c.load.result.1 c.args.number _ _ (c.load.ensures.done is)

pub returns-in-Ok-create-clause-written : goal.returns-in-Ok-create-clause-written
returns-in-Ok-create-clause-written g c = λ is. inl (
    front_generated g.P.Keeper.keeps g.P.Keeper.tells g.P.Keeper.faults BUILT_IN.now c.args.keeper c.in-Ok-create.desk (parts c.in-Ok.setup) c.in-Ok.setup.text
    c.in-Ok.ensures.parts c.in-Ok.ensures.text c.in-Ok-create.ensures.state c.in-Ok-create.ensures.rows c.in-Ok-create.ensures.none c.in-Ok-create.ensures.later_ok
    c.load.result.1 c.args.number _ _ (c.load.ensures.written is))

pub returns-in-Ok-create-clause-unkept : goal.returns-in-Ok-create-clause-unkept
returns-in-Ok-create-clause-unkept g c = λ is.
    let end = c.load.ensures.unkept is in (
      end.0,
      inl (
          begun g.P.Keeper.keeps g.P.Keeper.tells g.P.Keeper.faults BUILT_IN.now c.args.keeper c.in-Ok-create.desk (parts c.in-Ok.setup) c.in-Ok.setup.text
          c.in-Ok.ensures.parts c.in-Ok.ensures.text c.in-Ok-create.ensures.state c.in-Ok-create.ensures.rows c.in-Ok-create.ensures.none c.in-Ok-create.ensures.later_ok
          c.load.result.1 c.args.number 1 end.1),
    )

pub returns-in-Ok-create-clause-memory : goal.returns-in-Ok-create-clause-memory
returns-in-Ok-create-clause-memory g c = λ is.
    let end = c.load.ensures.memory is in (
      end.0,
      inl (
          begun g.P.Keeper.keeps g.P.Keeper.tells g.P.Keeper.faults BUILT_IN.now c.args.keeper c.in-Ok-create.desk (parts c.in-Ok.setup) c.in-Ok.setup.text
          c.in-Ok.ensures.parts c.in-Ok.ensures.text c.in-Ok-create.ensures.state c.in-Ok-create.ensures.rows c.in-Ok-create.ensures.none c.in-Ok-create.ensures.later_ok
          c.load.result.1 c.args.number 0 end.1),
    )
