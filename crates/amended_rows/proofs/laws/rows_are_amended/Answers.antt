use Rattle.amended_rows.proofs.Operations.{rows_are_amended}
use Rattle.amended_rows.proofs.laws.rows_are_amended.Goals as goal

pub returns : goal.returns
returns c = rows_are_amended
