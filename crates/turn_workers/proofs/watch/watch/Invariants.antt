use Rattle.std.proofs.Common.{◌≡◌, All}
use Rattle.desk_turn.specs.Passes.{IsPassOf, caller_of, own}
use Rattle.turn_workers.proofs.watch.watch.Given as goal

abbrev pub invariant-loop : goal.invariant-loop
invariant-loop g l = IsPassOf l.turn l.eye × (caller_of l.eye ≡ caller_of l.fn.eye) × All (λ e. e.ask ≡ l.look) (own l.eye)
