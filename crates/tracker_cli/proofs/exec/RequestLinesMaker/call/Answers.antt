use Rattle.std.proofs.Common.{◌∙◌, refl, subst}
use Rattle.tracker_core.specs.Desk.{DeskParts}
use Rattle.tracker_cli.specs.Serving.{MakesCall}
use Rattle.tracker_cli.proofs.exec.RequestLinesMaker.call.Goals as goal

pub returns : goal.returns
returns g c = λ state told.
    let made : MakesCall g.P.Keeper.keeps g.P.Keeper.tells g.P.Keeper.faults g.P.Keeper.leaves c.self.inside.desk c.args.caller.now c.args.call.now c.call.result c.call.new.self = record {
      step = c.call.ensures.step;
      rows = c.call.ensures.rows;
      told = c.call.ensures.told;
      owed = c.call.ensures.cause;
      unasked = c.call.ensures.unasked;
      left = c.call.ensures.left;
    } in (
      c.call.new.self,
      refl,
      subst (λ (d : DeskParts _). MakesCall g.P.Keeper.keeps g.P.Keeper.tells g.P.Keeper.faults g.P.Keeper.leaves d c.args.caller.now c.args.call.now c.call.result c.call.new.self) (c.self.view_is ∙ told) made,
    )
