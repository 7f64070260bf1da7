use Rattle.std.proofs.Common.{true, false, arith}
use Rattle.filter_views.proofs.Sifting.{before_not_after, not_before_self, compared}
use Rattle.filter_views.proofs.heap.first_child.Goals as goal

pub returns-then-right-heap : goal.returns-then-right-heap
returns-then-right-heap c = record {
  in_range = c.requires;
  not_less = omega arith;
  not_more = omega arith;
  not_left = not_before_self _;
  not_right = λ lt. absurd (omega (arith, lt, c.if-right-heap.true));
}

pub returns-then-is_before : goal.returns-then-is_before
returns-then-is_before c =
    let before = compared c.args.heap.now _ _ _ _ _ true (omega arith) c.requires c.index-heap-right.is c.index-heap-left.is c.is_before.ensures c.if-is_before.true in
    record {
      in_range = omega arith;
      not_less = omega arith;
      not_more = omega arith;
      not_left = before_not_after _ _ before;
      not_right = λ lt. not_before_self _;
    }

pub returns-else-is_before : goal.returns-else-is_before
returns-else-is_before c = record {
  in_range = c.requires;
  not_less = omega arith;
  not_more = omega arith;
  not_left = not_before_self _;
  not_right = λ lt. compared c.args.heap.now _ _ _ _ _ false lt c.requires c.index-heap-right.is c.index-heap-left.is c.is_before.ensures c.if-is_before.false;
}
