use Rattle.std.proofs.Common.{take}
use Rattle.jql_meaning.specs.Surroundings.{surroundings_of}
use Rattle.jql_eval.proofs.Joining.{Undecided}
use Rattle.jql_eval.proofs.query.+conditions.Given as goal

abbrev pub invariant-joined_verdict-loop-cond : goal.invariant-joined_verdict-loop-cond
invariant-joined_verdict-loop-cond l = Undecided l.deciding (surroundings_of l.context) l.issue.history l.at (take l.cond-index l.conds) l.until
