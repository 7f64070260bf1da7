use Rattle.std.proofs.Common.{◌≡◌, List, length, ap, ◌∙◌, arith}
use Rattle.board.specs.Order.{Pair}
use Rattle.rank_balancer.specs.Step.{Move, ranks_left}
use Rattle.rank_calls.proofs.Rebalancing.{left_behind}
use Rattle.rank_calls.proofs.rebalance.left_after.Goals as goal

pub overflow_sub-result : goal.overflow_sub-result
overflow_sub-result c =
    let m = c.args.state.now.machine in
    let sum = left_behind m.order m.balance c.args.moves.now c.is_tracker.ensures.ranked.order c.is_tracker.ensures.ranked.agrees c.requires.moving c.requires.picks in
    let left : c.left.result ≡ ranks_left m.order m.balance =
    c.left.ensures ∙ ap (λ (ps : List Pair). ranks_left ps c.ranks.result.now.balance) c.ranks.ensures.order ∙ ap (ranks_left m.order) c.ranks.ensures.balance in
    omega (arith, sum, left, ap (λ (moves : List Move). length moves) c.moves.ensures)

pub returns : goal.returns
returns c =
    let m = c.args.state.now.machine in
    let sum = left_behind m.order m.balance c.args.moves.now c.is_tracker.ensures.ranked.order c.is_tracker.ensures.ranked.agrees c.requires.moving c.requires.picks in
    let left : c.left.result ≡ ranks_left m.order m.balance =
    c.left.ensures ∙ ap (λ (ps : List Pair). ranks_left ps c.ranks.result.now.balance) c.ranks.ensures.order ∙ ap (ranks_left m.order) c.ranks.ensures.balance in
    omega (arith, sum, left, ap (λ (moves : List Move). length moves) c.moves.ensures)
