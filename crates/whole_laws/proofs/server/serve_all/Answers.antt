use Rattle.std.proofs.Common.{ℕ, inl}
use Rattle.setup_reading.specs.declared.built_in_text.TheConstants.{BUILT_IN}
use Rattle.whole_laws.proofs.Connections.{ends_with_links}
use Rattle.whole_laws.proofs.server.serve_all.Goals as goal

pub returns : goal.returns
returns g c =
    ends_with_links g.P.Keeper.keeps g.P.Keeper.tells g.P.Keeper.faults g.P.Keeper.leaves _ BUILT_IN.now c.args.keeper c.serve.result.2 _ _ _ _
    (λ one asked. c.serve.ensures.usage one asked.0 asked.1) (λ zero. c.serve.ensures.served (inl zero)) c.serve.ensures.link_cause c.serve.ensures.keeper_cause
    c.serve.ensures.bad c.serve.ensures.statuses
