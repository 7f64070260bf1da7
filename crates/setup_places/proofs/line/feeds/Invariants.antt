use Rattle.std.proofs.Common.{◌≡◌, ◌≤◌, ◌+◌, drop}
use Rattle.setup_places.specs.Places.{feeds}
use Rattle.setup_places.proofs.line.feeds.Given as goal

abbrev pub invariant-loop-byte : goal.invariant-loop-byte
invariant-loop-byte l =
    (l.count + feeds (drop l.byte-index l.bytes) ≡ feeds l.bytes) × (l.count ≤ l.byte-index)
