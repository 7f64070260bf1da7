use Rattle.std.proofs.Common.{◌≡◌}
use Rattle.std.specs.List.{AllWithin}
use Rattle.move_feeds.specs.Held.{HasRoomForOne, feeds_of}
use Rattle.move_feeds.proofs.each.reserve_each.Given as goal

abbrev pub invariant-loop-at : goal.invariant-loop-at
invariant-loop-at l = record {
  room : AllWithin HasRoomForOne l.feeds 0 l.at;
  same : feeds_of l.feeds ≡ feeds_of l.fn.feeds;
}
