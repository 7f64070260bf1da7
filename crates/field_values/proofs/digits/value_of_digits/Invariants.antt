use Rattle.std.proofs.Common.{◌≡◌, ◌<◌, ◌^◌, drop}
use Rattle.field_values.specs.Digits.{read_on}
use Rattle.field_values.proofs.digits.value_of_digits.Given as goal

abbrev pub invariant-loop-digit : goal.invariant-loop-digit
invariant-loop-digit l =
    (read_on 0 l.digits ≡ read_on l.value (drop l.digit-index l.digits)) × (l.value < 10 ^ l.digit-index)
