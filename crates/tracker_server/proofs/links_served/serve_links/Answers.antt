use Rattle.std.proofs.Common.{arith, subst}
use Rattle.std.proofs.lemmas.Grind.{common_steps}
use Rattle.tracker_server.specs.Links.{TakesLink}
use Rattle.tracker_server.proofs.Served.{made_more, told_on, ended_empty, has_failed}
use Rattle.tracker_server.proofs.links_served.serve_links.Goals as goal

pub loop-preserved : goal.loop-preserved
loop-preserved g c = record {
  made = made_more _ _ g.M.Maker.tells g.M.Maker.makes _ _ _ _ _ _ _ _ _ c.loop.invariant.made (subst (TakesLink _ _) c.in-Link.is c.next-in-loop.ensures.next) c.serve_link-maker.ensures;
  told = λ told. told_on _ _ _ c.next-in-loop.ensures.next (c.loop.invariant.told told);
  later = omega (arith, c.loop.invariant.later, c.next-in-loop.ensures.cause.later);
}

pub returns-in-End-clause-ended : goal.returns-in-End-clause-ended
returns-in-End-clause-ended g c = λ is told. ended_empty _ _ _ c.in-End.is c.next-in-loop.ensures.next (c.loop.invariant.told told)

pub returns-in-Failed-clause-later : goal.returns-in-Failed-clause-later
returns-in-Failed-clause-later g c = omega (arith, c.loop.invariant.later, c.next-in-loop.ensures.cause.later)

pub returns-in-Failed-clause-failed : goal.returns-in-Failed-clause-failed
returns-in-Failed-clause-failed g c = λ is.
    let rose = c.next-in-loop.ensures.cause.failed (has_failed _ c.in-Failed.is) in
    grind (arith, common_steps, rose, c.loop.invariant.later)
