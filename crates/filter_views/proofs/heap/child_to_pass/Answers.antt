use Rattle.std.proofs.Common.{true, false}
use Rattle.filter_views.proofs.Sifting.{passes_child, is_high, compared}
use Rattle.filter_views.proofs.heap.child_to_pass.Goals as goal

pub returns-then-is_before : goal.returns-then-is_before
returns-then-is_before c =
    passes_child c.args.heap.now c.args.at c.first_child-child.result c.first_child-child.ensures
    (compared c.args.heap.now _ _ _ _ _ true c.first_child-child.ensures.in_range c.requires c.index-heap-child.is c.index-heap-at.is c.is_before.ensures c.if-is_before.true)

pub returns-else-is_before : goal.returns-else-is_before
returns-else-is_before c =
    is_high c.args.heap.now c.args.at c.first_child-child.result c.first_child-child.ensures
    (compared c.args.heap.now _ _ _ _ _ false c.first_child-child.ensures.in_range c.requires c.index-heap-child.is c.index-heap-at.is c.is_before.ensures c.if-is_before.false)
