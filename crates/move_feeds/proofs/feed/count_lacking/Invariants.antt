use Rattle.std.proofs.Common.{◌≡◌, length, take}
use Rattle.move_feeds.specs.Changes.{lacking}
use Rattle.move_feeds.proofs.feed.count_lacking.Given as goal

abbrev pub invariant-loop-at : goal.invariant-loop-at
invariant-loop-at l = l.count ≡ length (lacking (take l.at l.these) l.those)
