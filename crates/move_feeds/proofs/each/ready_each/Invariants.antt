use Rattle.std.proofs.Common.{◌≡◌, true}
use Rattle.std.specs.List.{AllWithin}
use Rattle.move_feeds.specs.Held.{IsReady, feeds_of, is_concerned}
use Rattle.move_feeds.proofs.each.ready_each.Given as goal

-- the first ones are ready, and the subscriptions are as before
abbrev pub invariant-loop-at : goal.invariant-loop-at
invariant-loop-at g l = record {
  ready : AllWithin (λ h. is_concerned l.only h.feed ≡ true → IsReady (g.L.Lister.lists l.lister h.feed.user.0 h.feed.filter.0) h) l.feeds 0 l.at;
  same : feeds_of l.feeds ≡ feeds_of l.fn.feeds;
}
