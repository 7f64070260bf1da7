use Rattle.std.proofs.Common.{◌≡◌, ◌≤◌, ◌<◌, ◌+◌, ◌^◌, ◌++◌, drop, take, vec_len, vec_capacity}
use Rattle.move_feeds.specs.Block.{items_of}
use Rattle.move_feeds.specs.Changes.{numbered}
use Rattle.move_feeds.proofs.queue.put_blocks.Given as goal

-- what was told, and what is to be told of the blocks that are left
abbrev pub invariant-loop-block : goal.invariant-loop-block
invariant-loop-block l = record {
  told : l.room.items ++ numbered l.number (take l.left (drop l.skip (items_of (drop l.block-index l.blocks))))
      ≡ l.fn.room.items ++ numbered l.fn.first (take l.fn.count (drop l.fn.skip (items_of l.blocks)));
  slots : vec_len l.room + l.left ≤ vec_capacity l.room;
  numbers : l.number + l.left < 2 ^ 64;
}
