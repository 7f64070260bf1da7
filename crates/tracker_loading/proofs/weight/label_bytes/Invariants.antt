use Rattle.std.proofs.Common.{◌≡◌, ◌-◌, ◌^◌, min, sum_by, length, take}
use Rattle.tracker_loading.proofs.weight.label_bytes.Given as goal

abbrev pub invariant-loop-label : goal.invariant-loop-label
invariant-loop-label l = l.total ≡ min (sum_by length (take l.label-index l.labels)) (2 ^ 64 - 1)
