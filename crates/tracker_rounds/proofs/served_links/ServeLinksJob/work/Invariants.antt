use Rattle.std.proofs.Common.{◌≡◌, ◌-◌}
use Rattle.desk_turn.specs.Passes.{caller_of, own}
use Rattle.tracker_rounds.specs.Seated.{AreOfConnections, place_of}
use Rattle.tracker_rounds.specs.Trail.{events_in}
use Rattle.tracker_rounds.proofs.served_links.ServeLinksJob.work.Given as goal

abbrev pub invariant-loop : goal.invariant-loop
invariant-loop g l =
    (place_of l.seat.pass ≡ place_of l.fn.seat.pass)
    × AreOfConnections (caller_of l.seat.pass - 1) (events_in (own l.seat.pass))
