use Rattle.std.proofs.Common.{◌≡◌, ◌+◌, drop}
use Rattle.std.specs.Prelude.{sum_by}
use Rattle.tracker_machine.specs.Checks.{text_bytes}
use Rattle.tracker_machine.specs.Tracker.{AreSmall}
use Rattle.wanted_values.proofs.weight.bytes_of_changes.Given as goal

abbrev pub invariant-loop-change : goal.invariant-loop-change
invariant-loop-change l = (sum_by (λ c. text_bytes c.to) l.changes ≡ l.total + sum_by (λ c. text_bytes c.to) (drop l.change-index l.changes))
    × (AreSmall (drop l.change-index l.changes) → AreSmall l.changes)
