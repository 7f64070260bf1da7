use Rattle.std.proofs.Common.{◌≡◌, ◌≤◌, drop}
use Rattle.field_values.specs.Digits.{read_on}
use Rattle.jql_grammar.proofs.digits.written.Given as goal

abbrev pub invariant-loop-digit : goal.invariant-loop-digit
invariant-loop-digit l =
    (read_on 0 l.digits ≡ read_on l.number (drop l.digit-index l.digits)) × (l.number ≤ 4_294_967_295)
