use Rattle.std.proofs.Common.{◌≡◌, ◌+◌, sym, arith}
use Rattle.rank_balancer.proofs.Counted.{left_from_first, left_between}
use Rattle.rank_balancer.proofs.search.count_in.Goals as goal

pub returns-in-Some : goal.returns-in-Some
returns-in-Some c =
    let above : c.in-Some.below + 1 ≡ c.args.bucket = omega (arith, c.in-Some.ensures.0, c.in-Some.ensures.1) in
    let counted = left_between c.args.order.now.pairs c.args.bucket c.count_up_to-up_to.result c.count_up_to-up_to.ensures
    c.in-Some.below c.count_up_to.result above c.count_up_to.ensures in
    omega (arith, counted)

pub returns-in-None : goal.returns-in-None
returns-in-None c =
    sym (left_from_first c.args.order.now.pairs c.args.bucket c.count_up_to-up_to.result c.count_up_to-up_to.ensures (omega (arith, c.in-None.ensures)))
