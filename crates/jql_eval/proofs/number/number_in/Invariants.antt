use Rattle.std.proofs.Common.{◌≡◌, ◌^◌, min, take}
use Rattle.jql_meaning.specs.Order.{number_in}
use Rattle.jql_eval.proofs.number.number_in.Given as goal

abbrev pub invariant-loop-digit : goal.invariant-loop-digit
invariant-loop-digit l = l.number ≡ min (number_in (take l.digit-index l.digits)) (2 ^ 32)
