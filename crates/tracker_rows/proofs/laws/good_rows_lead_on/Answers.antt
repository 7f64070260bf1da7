use Rattle.tracker_rows.proofs.Verdicts.{good_rows_lead_on}
use Rattle.tracker_rows.proofs.laws.good_rows_lead_on.Goals as goal

pub returns : goal.returns
returns c = good_rows_lead_on
