use Rattle.std.proofs.Common.{◌≡◌}
use Rattle.desk_turn.specs.Passes.{IsPassOf, caller_of}
use Rattle.round_tests.proofs.workers.CountUpJobSums.work.Given as goal

abbrev pub invariant-loop-ask : goal.invariant-loop-ask
invariant-loop-ask g l = IsPassOf l.fn.seat.turn.now l.seat.pass × (caller_of l.seat.pass ≡ caller_of l.fn.seat.pass)
