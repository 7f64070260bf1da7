use Rattle.std.proofs.Common.{◌≤◌, IsSome}
use Rattle.tracker_serve.specs.Serving.{HasMadeRounds}
use Rattle.tracker_serve.proofs.rounds.serve_rounds.Given as goal

abbrev pub invariant-loop : goal.invariant-loop
invariant-loop g l = record {
  made : HasMadeRounds g.P.Keeper.keeps g.P.Keeper.tells g.P.Keeper.faults g.P.Keeper.leaves l.workers l.fn.desk l.desk;
  told : IsSome (g.K.Links.ahead l.fn.links) → IsSome (g.K.Links.ahead l.links);
  later : g.K.Links.faults l.fn.links ≤ g.K.Links.faults l.links;
}
