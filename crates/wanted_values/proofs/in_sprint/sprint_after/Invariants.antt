use Rattle.std.proofs.Common.{◌≡◌, drop}
use Rattle.wanted_values.specs.InSprints.{sprint_after}
use Rattle.wanted_values.proofs.in_sprint.sprint_after.Given as goal

abbrev pub invariant-loop-entry : goal.invariant-loop-entry
invariant-loop-entry l = sprint_after l.fn.before l.entries ≡ sprint_after l.sprint (drop l.entry-index l.entries)
