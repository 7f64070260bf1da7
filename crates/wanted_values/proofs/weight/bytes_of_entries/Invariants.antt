use Rattle.std.proofs.Common.{◌≡◌, ◌+◌, drop}
use Rattle.std.specs.Prelude.{sum_by}
use Rattle.tracker_machine.specs.Checks.{entry_bytes}
use Rattle.tracker_machine.specs.Tracker.{AllSmall}
use Rattle.wanted_values.proofs.weight.bytes_of_entries.Given as goal

abbrev pub invariant-loop-entry : goal.invariant-loop-entry
invariant-loop-entry l = (sum_by entry_bytes l.entries ≡ l.total + sum_by entry_bytes (drop l.entry-index l.entries))
    × (AllSmall (drop l.entry-index l.entries) → AllSmall l.entries)
