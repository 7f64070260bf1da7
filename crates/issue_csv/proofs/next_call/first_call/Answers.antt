use Rattle.issue_csv.proofs.NextCalls.{first_of_other}
use Rattle.issue_csv.proofs.next_call.first_call.Goals as goal

pub returns-in-Other : goal.returns-in-Other
returns-in-Other c = first_of_other c.args.records.now c.in-Other.ensures
