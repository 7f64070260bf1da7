use Rattle.run_laws.proofs.Doors.{posts_ask_as_lines, doors_reply_alike}
use Rattle.run_laws.proofs.laws.doors_reply_alike.Goals as goal

pub returns-clause-asks : goal.returns-clause-asks
returns-clause-asks c = posts_ask_as_lines

pub returns-clause-replies : goal.returns-clause-replies
returns-clause-replies c = doors_reply_alike
