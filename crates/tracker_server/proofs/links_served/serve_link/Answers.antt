use Rattle.std.proofs.Common.{refl, sym, subst}
use Rattle.tracker_server.specs.Exchanges.{events_of}
use Rattle.tracker_server.proofs.links_served.serve_link.Goals as goal

pub returns : goal.returns
returns g c = λ state told.
    let served = c.serve_connection.ensures.serves in
    let lead = served.grew.leads state (subst (λ m. g.M.Maker.tells m state) (sym c.over-teller.ensures.maker) told) in (
      events_of served.exchanges,
      lead.0,
      subst (λ m. g.M.Maker.tells m lead.0) (sym c.into_maker.ensures) lead.1,
      record {
        exchanges = served.exchanges;
        behind = served.behind;
        later = _;
        read = served.read;
        answered = served.answered;
        events_are = refl;
        led = lead.2;
      },
    )
