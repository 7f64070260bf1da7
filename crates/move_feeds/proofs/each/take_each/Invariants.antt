use Rattle.std.proofs.Common.{◌≡◌, ◌++◌, drop, map, take}
use Rattle.move_feeds.specs.Held.{feeds_of, taken_in}
use Rattle.move_feeds.proofs.each.take_each.Given as goal

-- the first ones have taken the event in, and the others are as before
abbrev pub invariant-loop-at : goal.invariant-loop-at
invariant-loop-at g l = record {
  done : feeds_of l.feeds ≡ map (taken_in l.only (g.L.Lister.lists l.lister)) (take l.at (feeds_of l.fn.feeds)) ++ drop l.at (feeds_of l.fn.feeds);
  rest : drop l.at l.feeds ≡ drop l.at l.fn.feeds;
}
