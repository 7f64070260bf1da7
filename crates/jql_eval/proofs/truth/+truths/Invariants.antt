use Rattle.std.proofs.Common.{◌≡◌, not, take}
use Rattle.jql_bound.specs.Condition.{views}
use Rattle.jql_meaning.specs.Surroundings.{surroundings_of}
use Rattle.jql_eval.specs.Joined.{joined}
use Rattle.jql_eval.proofs.truth.+truths.Given as goal

-- none of the conditions so far decides
abbrev pub invariant-joined_holds-loop-cond : goal.invariant-joined_holds-loop-cond
invariant-joined_holds-loop-cond l = joined l.deciding (surroundings_of l.context) l.issue.history l.at (views (take l.cond-index l.conds)) ≡ not l.deciding
