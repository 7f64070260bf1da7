use Rattle.std.proofs.Common.{◌≡◌, ◌+◌, ◌++◌, take, vec_len, vec_capacity}
use Rattle.move_feeds.specs.Changes.{numbered}
use Rattle.move_feeds.proofs.queue.put_some.Given as goal

abbrev pub invariant-loop-at : goal.invariant-loop-at
invariant-loop-at l = record {
  items : l.room.items ≡ l.fn.room.items ++ numbered l.first (take l.at l.changes);
  len : vec_len l.room ≡ vec_len l.fn.room + l.at;
  capacity : vec_capacity l.room ≡ vec_capacity l.fn.room;
}
