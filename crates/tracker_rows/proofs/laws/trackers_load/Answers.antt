use Rattle.tracker_rows.proofs.Setups.{new_setups, setups_stay}
use Rattle.tracker_rows.proofs.TrackersLoad.{trackers_load}
use Rattle.tracker_rows.proofs.laws.trackers_load.Goals as goal

pub returns-clause-all : goal.returns-clause-all
returns-clause-all c = trackers_load

pub returns-clause-opening : goal.returns-clause-opening
returns-clause-opening c = new_setups

pub returns-clause-later : goal.returns-clause-later
returns-clause-later c = setups_stay
