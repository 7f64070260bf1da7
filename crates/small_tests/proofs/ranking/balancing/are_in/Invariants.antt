use Rattle.std.proofs.Common.{◌≡◌, ◌<◌, ◌⊎◌, ℕ}
use Rattle.rank_balancer.specs.Border.{bucket_at}
use Rattle.small_tests.proofs.ranking.balancing.are_in.Given as goal

abbrev pub invariant-loop-place : goal.invariant-loop-place
invariant-loop-place l = (k : ℕ) → k < l.place → (bucket_at l.order.pairs k ≡ l.one) ⊎ (bucket_at l.order.pairs k ≡ l.other)
