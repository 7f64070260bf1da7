use Rattle.std.proofs.Common.{◌≡◌, ◌⊎◌, subst, arith}
use Rattle.std.proofs.lemmas.List.{get_or_default}
use Rattle.board.specs.Order.{Pair}
use Rattle.board.specs.Table.{nothing}
use Rattle.small_tests.proofs.ranking.balancing.are_in.Goals as goal

pub returns : goal.returns
returns c _ = λ k d lt.
    let end = c.loop-place-test.false in
    subst (λ (p : Pair). (p.0.bucket ≡ c.args.one) ⊎ (p.0.bucket ≡ c.args.other)) (get_or_default c.args.order.now.pairs k nothing d lt) (c.loop-place.invariant k (omega (arith, end, lt, c.len-place-end.ensures)))
