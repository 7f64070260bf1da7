use Rattle.std.proofs.Common.{◌≡◌, drop, map, option_map, None}
use Rattle.wanted_values.specs.Resolved.{resolved, first_of}
use Rattle.wanted_values.proofs.names.first_refused.Given as goal

abbrev pub invariant-loop-name : goal.invariant-loop-name
invariant-loop-name l = first_of l.missing None (map resolved l.names) ≡ first_of l.missing (option_map resolved l.found) (map resolved (drop l.name-index l.names))
