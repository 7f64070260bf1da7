use Rattle.std.proofs.Common.{◌≡◌, ◌++◌, drop, map, take}
use Rattle.move_feeds.specs.Feed.{after_event}
use Rattle.move_feeds.specs.Held.{feeds_of}
use Rattle.move_feeds.proofs.each.see_each.Given as goal

-- the first ones have seen the issue, and the others are as before
abbrev pub invariant-loop-at : goal.invariant-loop-at
invariant-loop-at g l = record {
  done : feeds_of l.feeds ≡ map (λ f. after_event (g.L.Lister.lists l.lister f.user.0 f.filter.0) f) (take l.at (feeds_of l.fn.feeds)) ++ drop l.at (feeds_of l.fn.feeds);
  rest : drop l.at l.feeds ≡ drop l.at l.fn.feeds;
}
