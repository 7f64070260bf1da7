use Rattle.std.proofs.Common.{◌≡◌, ◌+◌, drop, length}
use Rattle.std.specs.Prelude.{sum_by}
use Rattle.wanted_values.proofs.weight.label_bytes.Given as goal

abbrev pub invariant-loop-label : goal.invariant-loop-label
invariant-loop-label l = sum_by length l.labels ≡ l.total + sum_by length (drop l.label-index l.labels)
