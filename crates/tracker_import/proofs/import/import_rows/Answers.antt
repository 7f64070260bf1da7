use Rattle.tracker_import.proofs.CallByCall.{begun_none}
use Rattle.tracker_import.proofs.import.import_rows.Goals as goal

pub returns-in_default-clause-run : goal.returns-in_default-clause-run
returns-in_default-clause-run g c = begun_none _ _ _ _ _ _ _
