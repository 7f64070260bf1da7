use Rattle.std.proofs.Common.{◌≡◌, ◌-◌, ◌^◌, min, sum_by, take}
use Rattle.tracker_machine.specs.Checks.{entry_bytes}
use Rattle.tracker_loading.proofs.weight.bytes_of_entries.Given as goal

abbrev pub invariant-loop-entry : goal.invariant-loop-entry
invariant-loop-entry l = l.total ≡ min (sum_by entry_bytes (take l.entry-index l.entries)) (2 ^ 64 - 1)
