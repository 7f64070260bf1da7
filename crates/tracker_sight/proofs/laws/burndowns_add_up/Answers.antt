use Rattle.tracker_sight.proofs.AddedUp.{burndowns_add_up}
use Rattle.tracker_sight.proofs.Replied.{burndowns_tell_sums}
use Rattle.tracker_sight.proofs.laws.burndowns_add_up.Goals as goal

pub returns-clause-rows : goal.returns-clause-rows
returns-clause-rows c = burndowns_add_up

pub returns-clause-told : goal.returns-clause-told
returns-clause-told c = burndowns_tell_sums
