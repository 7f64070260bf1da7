use Rattle.std.proofs.Common.{◌≡◌, drop}
use Rattle.setup_reading.specs.Resolving.{first_over, unknown}
use Rattle.setup_reading.proofs.resolve.all_known.Given as goal

abbrev pub invariant-loop-name : goal.invariant-loop-name
invariant-loop-name l = first_over (unknown l.names) l.list ≡ first_over (unknown l.names) (drop l.name-index l.list)
