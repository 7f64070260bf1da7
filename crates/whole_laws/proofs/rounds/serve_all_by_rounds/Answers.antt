use Rattle.setup_reading.specs.declared.built_in_text.TheConstants.{BUILT_IN}
use Rattle.whole_laws.proofs.Connections.{ends_with_links}
use Rattle.whole_laws.proofs.rounds.serve_all_by_rounds.Goals as goal

pub returns : goal.returns
returns g c =
    ends_with_links g.P.Keeper.keeps g.P.Keeper.tells g.P.Keeper.faults g.P.Keeper.leaves _ BUILT_IN.now c.args.keeper c.serve.result.2 _ _ _ _
    (λ one asked. c.serve.ensures.usage one asked.0 asked.1 asked.2) c.serve.ensures.served_all c.serve.ensures.link_cause c.serve.ensures.keeper_cause
    c.serve.ensures.bad c.serve.ensures.statuses
