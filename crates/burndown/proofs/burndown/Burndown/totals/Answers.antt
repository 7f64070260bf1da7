use Rattle.burndown.proofs.TrackedSprints.{total_in-tracked}
use Rattle.burndown.proofs.burndown.Burndown.totals.Goals as goal

pub returns-clause-remaining : goal.returns-clause-remaining
returns-clause-remaining c = λ s. rw (c.deref.ensures.value, ← c.self.view_is) (total_in-tracked _ _ s c.self.invariant.same_length)
