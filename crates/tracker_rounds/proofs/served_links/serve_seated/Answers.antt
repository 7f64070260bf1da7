use Rattle.std.proofs.Common.{◌≡◌, ◌-◌, refl, ap, sym, subst, ◌∙◌}
use Rattle.tracker_rounds.specs.Seated.{AreOfConnections, Place}
use Rattle.tracker_rounds.specs.Trail.{events_in}
use Rattle.tracker_rounds.proofs.Connections.{connections_more, lead_stays}
use Rattle.tracker_rounds.proofs.served_links.serve_seated.Goals as goal

pub returns-clause-same_reference : goal.returns-clause-same_reference
returns-clause-same_reference g c =
    let old = c.args.teller.now.seat in
    let lead = c.serve_connection.ensures.serves.grew.leads (old.ghost_name, g.Z.Sits.place old.now) (refl, refl) in
    lead.1.0 ∙ ap (λ s. s.0) (lead_stays _ _ _ lead.2)

pub returns-clause-place : goal.returns-clause-place
returns-clause-place g c =
    let old = c.args.teller.now.seat in
    let lead = c.serve_connection.ensures.serves.grew.leads (old.ghost_name, g.Z.Sits.place old.now) (refl, refl) in
    lead.1.1 ∙ ap (λ s. s.1) (lead_stays _ _ _ lead.2)

pub returns-clause-made : goal.returns-clause-made
returns-clause-made g c =
    let old = c.args.teller.now.seat in
    let new = c.serve_connection.new.teller.seat in
    let serves = c.serve_connection.ensures.serves in
    let lead = serves.grew.leads (old.ghost_name, g.Z.Sits.place old.now) (refl, refl) in
    let place : g.Z.Sits.place new.now ≡ g.Z.Sits.place old.now = lead.1.1 ∙ ap (λ s. s.1) (lead_stays _ _ _ lead.2) in
    subst (λ (p : Place). AreOfConnections (p.number - 1) (events_in (g.Z.Sits.own new.now))) (sym place)
    (connections_more _ _ _ serves.exchanges _ _ c.requires serves.answered serves.grew.list)
