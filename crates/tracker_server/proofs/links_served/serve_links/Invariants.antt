use Rattle.std.proofs.Common.{◌≤◌, IsSome}
use Rattle.tracker_server.specs.Served.{HasMadeCalls}
use Rattle.tracker_server.proofs.links_served.serve_links.Given as goal

abbrev pub invariant-loop : goal.invariant-loop
invariant-loop g l = record {
  made : HasMadeCalls g.K.In.Source.left g.K.At.Clock.ahead g.M.Maker.tells g.M.Maker.makes (g.K.Links.ahead l.fn.links) (g.K.Links.ahead l.links) l.fn.maker l.maker;
  told : IsSome (g.K.Links.ahead l.fn.links) → IsSome (g.K.Links.ahead l.links);
  later : g.K.Links.faults l.fn.links ≤ g.K.Links.faults l.links;
}
