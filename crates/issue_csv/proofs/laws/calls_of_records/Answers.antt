use Rattle.issue_csv.proofs.Whole.{calls_are}
use Rattle.issue_csv.proofs.laws.calls_of_records.Goals as goal

pub returns : goal.returns
returns c = calls_are
