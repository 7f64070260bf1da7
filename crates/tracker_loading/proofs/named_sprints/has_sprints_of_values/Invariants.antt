use Rattle.tracker_loading.proofs.Sprints.{AreOpen}
use Rattle.tracker_loading.proofs.named_sprints.has_sprints_of_values.Given as goal

abbrev pub invariant-loop-value : goal.invariant-loop-value
invariant-loop-value l = AreOpen l.rows l.values l.value-index
