use Rattle.issue_csv.proofs.NextCalls.{next_at_end, next_of_text, next_of_other}
use Rattle.issue_csv.proofs.next_call.later_call.Goals as goal

pub returns-in-Text : goal.returns-in-Text
returns-in-Text c = next_of_text c.args.records.now c.read.new.self c.call_at_hand.result c.in-Text.ensures c.call_at_hand.ensures

pub returns-in-Other : goal.returns-in-Other
returns-in-Other c = next_of_other c.args.records.now c.in-Other.ensures

pub returns-in-End : goal.returns-in-End
returns-in-End c = next_at_end c.args.records.now c.in-End.ensures
