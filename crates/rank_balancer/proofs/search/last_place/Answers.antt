use Rattle.std.proofs.Common.{◌-◌, refl, arith}
use Rattle.std.proofs.lemmas.Bool.{false≢true}
use Rattle.rank_balancer.proofs.Picks.{last_found, last_absent, last_nowhere}
use Rattle.rank_balancer.proofs.search.last_place.Goals as goal

pub returns-then-above-eq0 : goal.returns-then-above-eq0
returns-then-above-eq0 c = last_nowhere c.args.order.now.pairs c.issues.ensures.order c.args.bucket c.count_up_to-above.result c.count_up_to-above.ensures c.if-above-eq0.true

pub returns-then-is_in : goal.returns-then-is_in
returns-then-is_in c =
    let n = c.count_up_to-above.ensures.in_range in
    last_found c.args.order.now.pairs c.issues.ensures.order c.args.bucket c.count_up_to-above.result c.count_up_to-above.ensures (c.count_up_to-above.result - 1) (omega arith) (c.if-is_in.ensures.0 refl)

pub returns-else-is_in : goal.returns-else-is_in
returns-else-is_in c =
    let n = c.count_up_to-above.ensures.in_range in
    last_absent c.args.order.now.pairs c.issues.ensures.order c.args.bucket c.count_up_to-above.result c.count_up_to-above.ensures (c.count_up_to-above.result - 1) (omega arith) (λ same. false≢true (c.if-is_in.ensures.1 same))
