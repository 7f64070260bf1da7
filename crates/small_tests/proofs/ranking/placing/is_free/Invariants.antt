use Rattle.std.proofs.Common.{◌≢◌, ◌<◌, ℕ}
use Rattle.board.specs.Table.{number_at}
use Rattle.board.specs.Search.{rank_at}
use Rattle.small_tests.proofs.ranking.placing.is_free.Given as goal

abbrev pub invariant-loop-place : goal.invariant-loop-place
invariant-loop-place l = (k : ℕ) → k < l.place → number_at l.order.pairs k ≢ l.issue.0 → rank_at l.order.pairs k ≢ l.rank
