use Rattle.std.proofs.Common.{refl, ap, ◌∙◌}
use Rattle.tracker_rounds.specs.Trail.{events_in}
use Rattle.tracker_rounds.proofs.Connections.{seated_more}
use Rattle.tracker_server.proofs.Telling.{told_entered, told_unentered}
use Rattle.tracker_rounds.proofs.seated.SeatedTeller.tell.Goals as goal

pub returns-in-Ok-Some-clause-told : goal.returns-in-Ok-Some-clause-told
returns-in-Ok-Some-clause-told g c =
    told_entered _ _ _ _ _ _
    (seated_more (g.Z.Sits.own c.args.self.now.seat.now) (g.Z.Sits.own c.ask.new.self) (g.Z.Sits.place c.args.self.now.seat.now).number c.args.caller.now c.args.call.now c.in-Ok.ask c.in-Ok-Some.told c.in-Ok.ensures (rw c.in-Ok-Some.field-0-is at c.in-Ok-Some.ensures.told))
    (λ state there. (state, (there.0, c.ask.ensures.place ∙ there.1), refl))

pub returns-in-Ok-None-clause-told : goal.returns-in-Ok-None-clause-told
returns-in-Ok-None-clause-told g c =
    told_unentered _ _ _ _ _ _ refl (ap events_in (rw c.in-Ok-None.field-0-is at c.in-Ok-None.ensures.nothing)) (λ state there. (there.0, c.ask.ensures.place ∙ there.1))

pub returns-clause-told : goal.returns-clause-told
returns-clause-told g c =
    told_unentered _ _ _ _ _ _ refl (ap events_in c.in-Err.ensures.memory) (λ state there. (there.0, c.ask.ensures.place ∙ there.1))
