use Rattle.std.proofs.Common.{◌≡◌, ◌-◌, ◌++◌, length, map, take}
use Rattle.move_feeds.specs.Changes.{change, lacking}
use Rattle.move_feeds.proofs.feed.put_lacking.Given as goal

abbrev pub invariant-loop-at : goal.invariant-loop-at
invariant-loop-at l = record {
  items : l.waiting.items ≡ l.fn.waiting.items ++ map (change l.entered) (lacking (take l.at l.these) l.those);
  room : l.waiting.room ≡ l.fn.waiting.room - length (lacking (take l.at l.these) l.those);
}
