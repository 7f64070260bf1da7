use Rattle.std.proofs.Common.{arith}
use Rattle.std.proofs.lemmas.Grind.{common_steps}
use Rattle.tracker_serve.proofs.ManyRounds.{made_last, made_more}
use Rattle.tracker_serve.proofs.rounds.serve_rounds.Goals as goal

pub loop-preserved : goal.loop-preserved
loop-preserved g c =
    let round = c.serve_desk_round-maker.ensures in
    record {
      made = made_more g.P.Keeper.keeps g.P.Keeper.tells g.P.Keeper.faults g.P.Keeper.leaves _ _ _ _ _ _ _ c.loop.invariant.made round.round c.in-Full.is;
      told = λ told. round.told (c.loop.invariant.told told);
      later = omega (arith, c.loop.invariant.later, round.later);
    }

pub returns-in-LinksEnd-clause-made : goal.returns-in-LinksEnd-clause-made
returns-in-LinksEnd-clause-made g c = made_last g.P.Keeper.keeps g.P.Keeper.tells g.P.Keeper.faults g.P.Keeper.leaves _ _ _ _ _ _ _ _ c.loop.invariant.made c.serve_desk_round-maker.ensures.round c.in-LinksEnd.is

pub returns-in-LinkFault-clause-made : goal.returns-in-LinkFault-clause-made
returns-in-LinkFault-clause-made g c = made_last g.P.Keeper.keeps g.P.Keeper.tells g.P.Keeper.faults g.P.Keeper.leaves _ _ _ _ _ _ _ _ c.loop.invariant.made c.serve_desk_round-maker.ensures.round c.in-LinkFault.is

pub returns-in-Memory-clause-made : goal.returns-in-Memory-clause-made
returns-in-Memory-clause-made g c = made_last g.P.Keeper.keeps g.P.Keeper.tells g.P.Keeper.faults g.P.Keeper.leaves _ _ _ _ _ _ _ _ c.loop.invariant.made c.serve_desk_round-maker.ensures.round c.in-Memory.is

pub returns-in-LinksEnd-clause-ended : goal.returns-in-LinksEnd-clause-ended
returns-in-LinksEnd-clause-ended g c = λ is told. c.serve_desk_round-maker.ensures.ended c.in-LinksEnd.is (c.loop.invariant.told told)

pub returns-in-LinkFault-clause-fault : goal.returns-in-LinkFault-clause-fault
returns-in-LinkFault-clause-fault g c = λ is.
    let rose = c.serve_desk_round-maker.ensures.fault c.in-LinkFault.is in
    grind (arith, common_steps, rose, c.loop.invariant.later)
