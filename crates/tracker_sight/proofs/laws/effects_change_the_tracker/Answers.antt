use Rattle.tracker_sight.proofs.Effective.{effects_change_the_tracker, keepers_fail_changes_alone}
use Rattle.tracker_sight.proofs.laws.effects_change_the_tracker.Goals as goal

pub returns-clause-effects : goal.returns-clause-effects
returns-clause-effects c = effects_change_the_tracker

pub returns-clause-keepers : goal.returns-clause-keepers
returns-clause-keepers c = keepers_fail_changes_alone
