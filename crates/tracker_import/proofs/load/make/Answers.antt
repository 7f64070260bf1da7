use Rattle.std.proofs.Common.{sym, subst}
use Rattle.tracker_import.specs.Load.{MakesInLoad}
use Rattle.tracker_import.proofs.LoadMade.{made_in_load}
use Rattle.tracker_import.proofs.load.make.Goals as goal

pub returns : goal.returns
returns g c =
    subst (λ r. MakesInLoad g.P.Keeper.keeps g.P.Keeper.tells g.P.Keeper.faults c.args.desk.now c.args.call.now r c.call-reply.new.self) (sym c.outcome_of.ensures)
    (made_in_load _ _ _ _ _ _ c.call-reply.ensures.rows c.call-reply.ensures.told _ _ c.requires c.call-reply.ensures.step c.call-reply.ensures.cause)
