use Rattle.std.proofs.Common.{arith}
use Rattle.rank_balancer.proofs.Picks.{first_found, first_absent}
use Rattle.rank_balancer.proofs.search.first_place.Goals as goal

pub returns-then-place-len : goal.returns-then-place-len
returns-then-place-len c = first_found c.args.order.now.pairs c.issues.ensures.order c.count_up_to-place.result c.count_up_to-place.ensures (omega (arith, c.if-place-len.true, c.len.ensures))

pub returns-else-place-len : goal.returns-else-place-len
returns-else-place-len c = first_absent c.args.order.now.pairs c.issues.ensures.order c.count_up_to-place.result c.count_up_to-place.ensures (omega (arith, c.if-place-len.false, c.len.ensures))
