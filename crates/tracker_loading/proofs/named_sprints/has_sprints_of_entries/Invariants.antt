use Rattle.tracker_loading.proofs.Sprints.{AreNamed}
use Rattle.tracker_loading.proofs.named_sprints.has_sprints_of_entries.Given as goal

abbrev pub invariant-loop-entry : goal.invariant-loop-entry
invariant-loop-entry l = AreNamed l.rows l.entries l.entry-index
