use Rattle.move_feeds.specs.Feed.{IsFeed}
use Rattle.move_feeds.proofs.AllFeeds.{feeds_within}
use Rattle.move_feeds.proofs.each.are_feeds.Goals as goal

pub loop-feed-preserved : goal.loop-feed-preserved
loop-feed-preserved c = feeds_within IsFeed c.args.feeds.now c.loop-feed.feed-index c.feed-item.result c.loop-feed.invariant c.feed-item.is c.loop-feed-test.true c.is_feed.ensures
