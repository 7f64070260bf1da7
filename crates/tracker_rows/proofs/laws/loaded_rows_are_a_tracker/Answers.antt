use Rattle.tracker_rows.proofs.Loaded.{loaded_are_trackers, loaded_rows_are_theirs}
use Rattle.tracker_rows.proofs.Verdicts.{loaded_setups}
use Rattle.tracker_rows.proofs.laws.loaded_rows_are_a_tracker.Goals as goal

pub returns-clause-tracker : goal.returns-clause-tracker
returns-clause-tracker c = loaded_are_trackers

pub returns-clause-setup : goal.returns-clause-setup
returns-clause-setup c = loaded_setups

pub returns-clause-rows : goal.returns-clause-rows
returns-clause-rows c = loaded_rows_are_theirs
