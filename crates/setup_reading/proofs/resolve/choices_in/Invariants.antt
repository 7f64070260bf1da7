use Rattle.std.proofs.Common.{◌≡◌, drop, take, map}
use Rattle.setup_reading.specs.Resolving.{first_over, unknown, choice_in}
use Rattle.setup_reading.proofs.resolve.choices_in.Given as goal

abbrev pub invariant-loop-name : goal.invariant-loop-name
invariant-loop-name l =
    (first_over (unknown l.names) l.list ≡ first_over (unknown l.names) (drop l.name-index l.list))
    × (map (choice_in l.names) (take l.name-index l.list) ≡ l.resolved)
