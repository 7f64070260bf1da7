use Rattle.std.proofs.Common.{◌≡◌, ◌++◌}
use Rattle.std.specs.Vec.Iter.{into_iter_items}
use Rattle.rank_balancer.specs.Step.{after_moves}
use Rattle.rank_balancer.proofs.step.apply.Given as goal

abbrev pub invariant-loop-issue : goal.invariant-loop-issue
invariant-loop-issue l = record {
  can : (goal.iterator-loop-issue).can_next l.issue-iterator;
  finite : (goal.iterator-loop-issue).is_finite l.issue-iterator;
  rest : l.yielded ++ into_iter_items l.issue-iterator ≡ l.fn.plan;
  order : l.order ≡ record l.initial.order { pairs = after_moves l.initial.order.pairs l.yielded };
}
