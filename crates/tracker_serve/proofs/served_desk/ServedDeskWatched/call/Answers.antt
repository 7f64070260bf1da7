use Rattle.std.proofs.Common.{◌∙◌, refl, subst}
use Rattle.tracker_core.specs.Desk.{DeskParts}
use Rattle.tracker_cli.specs.Serving.{MakesCall}
use Rattle.tracker_serve.proofs.served_desk.ServedDeskWatched.call.Goals as goal

pub returns : goal.returns
returns g c = λ state told. (
  c.counted_call.new.desk,
  refl,
  subst (λ (d : DeskParts _). MakesCall g.P.Keeper.keeps g.P.Keeper.tells g.P.Keeper.faults g.P.Keeper.leaves d c.args.caller.now c.args.call.now c.counted_call.result c.counted_call.new.desk)
      (c.self.view_is ∙ told) c.counted_call.ensures,
)
