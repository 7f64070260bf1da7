use Rattle.std.proofs.Common.{◌≡◌, ◌+◌, ◌≤◌, vec_len, vec_capacity}
use Rattle.rank_balancer.proofs.Plans.{PlansUp}
use Rattle.rank_balancer.proofs.plan.plan_up.Given as goal

abbrev pub invariant-loop-place : goal.invariant-loop-place
invariant-loop-place l = record {
  plans : PlansUp l.order.pairs l.from l.border l.place l.moves.items;
  count : vec_len l.moves + l.place ≡ l.border;
  room : vec_capacity l.moves ≡ l.count;
  low : l.border ≤ l.place + l.count;
}
