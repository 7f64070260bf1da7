use Rattle.row_lines.proofs.Counted.{counted}
use Rattle.row_lines.proofs.members.count.Goals as goal

pub returns : goal.returns
returns c = counted c.args.members.now
