use Rattle.rank_balancer.proofs.Planned.{plan_computed, plan_refused}
use Rattle.rank_balancer.proofs.step.plan_step.Goals as goal

pub returns-in-Ok-clause-computed : goal.returns-in-Ok-clause-computed
returns-in-Ok-clause-computed c =
    plan_computed c.args.order.now.pairs c.args.balance.now c.in-Moving.from c.in-Moving.to c.args.at_most c.in-Moving.is c.issues.ensures.order
    c.requires.agrees c.in-Ok.moves.items c.in-Ok.ensures.step

pub returns-in-Err-clause-refused : goal.returns-in-Err-clause-refused
returns-in-Err-clause-refused c =
    plan_refused c.args.order.now.pairs c.args.balance.now c.in-Moving.from c.in-Moving.to c.args.at_most c.in-Moving.is c.issues.ensures.order
    c.requires.agrees c.in-Err.fault c.in-Err.ensures.fault
