use Rattle.std.specs.List.{AllWithin}
use Rattle.move_feeds.specs.Feed.{IsFeed}
use Rattle.move_feeds.specs.Held.{feeds_of}
use Rattle.move_feeds.proofs.each.are_feeds.Given as goal

abbrev pub invariant-loop-feed : goal.invariant-loop-feed
invariant-loop-feed l = AllWithin IsFeed (feeds_of l.feeds) 0 l.feed-index
