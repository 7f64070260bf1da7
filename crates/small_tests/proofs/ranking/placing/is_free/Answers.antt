use Rattle.std.proofs.Common.{arith}
use Rattle.board.proofs.Placing.{free_from_each}
use Rattle.small_tests.proofs.ranking.placing.is_free.Goals as goal

pub returns : goal.returns
returns c _ =
    let end = c.loop-place-test.false in
    free_from_each c.args.order.now.pairs c.args.issue.0 c.args.rank.now (λ k lt. c.loop-place.invariant k (omega (arith, end, c.len-place-end.ensures)))
