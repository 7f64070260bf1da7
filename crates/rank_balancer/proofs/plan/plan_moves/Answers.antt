use Rattle.rank_balancer.proofs.Keeps.{if_ok_then, step_up, step_down}
use Rattle.rank_balancer.proofs.plan.plan_moves.Goals as goal

pub returns-then-from-eq2-clause-step : goal.returns-then-from-eq2-clause-step
returns-then-from-eq2-clause-step c =
    let picks = rw (c.min.ensures, c.len.ensures) at c.plan_down.ensures.picks in
    if_ok_then _ _ (λ moves h. step_down c.args.order.now.pairs c.args.from c.args.most c.count_up_to-border.result moves.items c.if-from-eq2.true c.issues.ensures.order c.requires.agrees c.count_up_to-border.ensures h) c.plan_down.result picks

pub returns-else-from-eq2-clause-step : goal.returns-else-from-eq2-clause-step
returns-else-from-eq2-clause-step c =
    let picks = rw c.min-else-from-eq2.ensures at c.plan_up.ensures.picks in
    if_ok_then _ _ (λ moves h. step_up c.args.order.now.pairs c.args.from c.args.most c.count_up_to-border-else-from-eq2.result moves.items c.if-from-eq2.false c.issues.ensures.order c.requires.agrees c.count_up_to-border-else-from-eq2.ensures h) c.plan_up.result picks
