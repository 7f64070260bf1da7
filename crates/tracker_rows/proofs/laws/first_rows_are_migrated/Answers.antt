use Rattle.tracker_rows.proofs.Loaded.{migrated_rows_are_theirs}
use Rattle.tracker_rows.proofs.Verdicts.{first_rows_have_members}
use Rattle.tracker_rows.proofs.laws.first_rows_are_migrated.Goals as goal

pub returns-clause-members : goal.returns-clause-members
returns-clause-members c = first_rows_have_members

pub returns-clause-rows : goal.returns-clause-rows
returns-clause-rows c = migrated_rows_are_theirs
