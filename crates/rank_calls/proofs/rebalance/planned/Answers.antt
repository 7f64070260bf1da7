use Rattle.std.proofs.Common.{List, subst}
use Rattle.board.specs.Order.{Pair}
use Rattle.board.specs.Moved.{IsRefusalOf}
use Rattle.rank_balancer.specs.declared.balance.Balance.{Balance}
use Rattle.rank_balancer.specs.Balance.{from_of, to_of}
use Rattle.rank_balancer.specs.Planned.{planned}
use Rattle.rank_calls.proofs.rebalance.planned.Goals as goal

pub returns-in-Err-clause-check : goal.returns-in-Err-clause-check
returns-in-Err-clause-check c =
    let m = c.args.state.now.machine in
    c.refusal_of.ensures.step (planned m.order (from_of m.balance) (to_of m.balance) c.args.count)
    (subst (λ (b : Balance). IsRefusalOf (planned m.order (from_of b) (to_of b) c.args.count) c.in-Err.fault) c.ranks.ensures.balance
    (subst (λ (ps : List Pair). IsRefusalOf (planned ps (from_of c.ranks.result.now.balance) (to_of c.ranks.result.now.balance) c.args.count) c.in-Err.fault)
    c.ranks.ensures.order c.in-Err.ensures.computed))
