use Rattle.issue_csv.proofs.Ends.{are_all}
use Rattle.issue_csv.proofs.laws.all_records.Goals as goal

pub returns : goal.returns
returns c = are_all
