use Rattle.std.proofs.Common.{◌≡◌, drop, option_map, None}
use Rattle.wanted_values.specs.Resolved.{last_given}
use Rattle.wanted_values.proofs.resolved.last_given.Given as goal

abbrev pub invariant-loop-name : goal.invariant-loop-name
invariant-loop-name l =
    last_given l.field.0 None l.names
    ≡ last_given l.field.0 (option_map (λ g. g.now) l.found) (drop l.name-index l.names)
