use Rattle.std.proofs.Common.{◌≡◌, All}
use Rattle.desk_turn.specs.Passes.{IsPassOf, caller_of, left_of, own}
use Rattle.turn_workers.proofs.watch.look_through.Given as goal

abbrev pub invariant-loop-looks : goal.invariant-loop-looks
invariant-loop-looks g l = IsPassOf l.turn l.pass × (caller_of l.pass ≡ caller_of l.fn.pass) × All (λ e. e.ask ≡ l.look) (own l.pass)

abbrev pub decreases-loop-looks : goal.decreases-loop-looks
decreases-loop-looks g l = left_of l.pass
