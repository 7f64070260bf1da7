use Rattle.tracker_sight.proofs.Renumbered.{renumbered_tell_the_same}
use Rattle.tracker_sight.proofs.laws.numbers_show_in_changes_alone.Goals as goal

pub returns : goal.returns
returns c = renumbered_tell_the_same
