use Rattle.std.proofs.Common.{◌≡◌, ◌-◌, ◌^◌, min, sum_by, take}
use Rattle.tracker_machine.specs.Checks.{text_bytes}
use Rattle.tracker_loading.proofs.weight.bytes_of_changes.Given as goal

abbrev pub invariant-loop-change : goal.invariant-loop-change
invariant-loop-change l = l.total ≡ min (sum_by (λ c. text_bytes c.to) (take l.change-index l.changes)) (2 ^ 64 - 1)
