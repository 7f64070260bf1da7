use Rattle.std.proofs.Common.{subst}
use Rattle.tracker_machine.specs.Tracker.{IsTracker}
use Rattle.tracker_state.specs.State.{Held}
use Rattle.tracker_state.proofs.state.State.is_tracker.Goals as goal

pub returns : goal.returns
returns c = subst (λ (s : Held). IsTracker s.machine) c.self.view_is c.self.invariant.tracker
