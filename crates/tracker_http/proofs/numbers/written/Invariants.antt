use Rattle.std.proofs.Common.{◌≡◌, ◌≤◌, drop, min}
use Rattle.field_values.specs.Digits.{read_on}
use Rattle.tracker_http.proofs.numbers.written.Given as goal

abbrev pub invariant-loop-digit : goal.invariant-loop-digit
invariant-loop-digit l = record {
  read : min (read_on l.value (drop l.digit-index l.digits)) l.bound ≡ min (read_on 0 l.digits) l.bound;
  small : l.value ≤ l.bound;
}
