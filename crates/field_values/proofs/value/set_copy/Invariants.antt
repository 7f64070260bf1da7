use Rattle.std.proofs.Common.{◌≡◌, take}
use Rattle.field_values.proofs.value.set_copy.Given as goal

abbrev pub invariant-loop-no : goal.invariant-loop-no
invariant-loop-no l = l.copy ≡ take l.no-index l.set
