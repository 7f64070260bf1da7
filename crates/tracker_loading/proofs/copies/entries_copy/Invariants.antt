use Rattle.std.proofs.Common.{◌≡◌, take}
use Rattle.tracker_loading.proofs.copies.entries_copy.Given as goal

abbrev pub invariant-loop-entry : goal.invariant-loop-entry
invariant-loop-entry l = l.copy ≡ take l.entry-index l.entries
