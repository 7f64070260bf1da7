use Rattle.std.proofs.Common.{◌≡◌, ◌≤◌, drop, length}
use Rattle.move_feeds.specs.Block.{items_of}
use Rattle.move_feeds.proofs.queue.drop_from.Given as goal

-- what is left to drop is there, and leaves the same
abbrev pub invariant-loop-blocks : goal.invariant-loop-blocks
invariant-loop-blocks l = record {
  within : l.left ≤ length (items_of l.blocks.items);
  same : drop l.left (items_of l.blocks.items) ≡ drop l.fn.n (items_of l.fn.blocks.items);
}

abbrev pub decreases-loop-blocks : goal.decreases-loop-blocks
decreases-loop-blocks l = length l.blocks.items
