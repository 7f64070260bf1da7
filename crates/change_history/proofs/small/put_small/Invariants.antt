use Rattle.std.proofs.Common.{◌≡◌, drop}
use Rattle.change_history.specs.Small.{small_after}
use Rattle.change_history.proofs.small.put_small.Given as goal

abbrev pub invariant-loop-entry : goal.invariant-loop-entry
invariant-loop-entry l = small_after l.fn.small l.entries ≡ small_after l.small (drop l.entry-index l.entries)
