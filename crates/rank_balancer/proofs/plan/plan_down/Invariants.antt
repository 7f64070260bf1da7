use Rattle.std.proofs.Common.{◌≡◌, ◌+◌, vec_len, vec_capacity}
use Rattle.rank_balancer.proofs.Plans.{PlansDown}
use Rattle.rank_balancer.proofs.plan.plan_down.Given as goal

abbrev pub invariant-loop-place : goal.invariant-loop-place
invariant-loop-place l = record {
  plans : PlansDown l.order.pairs l.border l.place l.moves.items;
  count : vec_len l.moves + l.border ≡ l.place;
  room : vec_capacity l.moves ≡ l.count;
}
