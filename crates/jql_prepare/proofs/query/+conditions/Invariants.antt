use Rattle.std.proofs.Common.{◌+◌, ◌*◌}
use Rattle.jql_meaning.specs.Surroundings.{surroundings_of}
use Rattle.jql_prepare.proofs.Conditions.{SameBelow}
use Rattle.jql_prepare.proofs.query.+conditions.Given as goal

abbrev pub invariant-settled_each-loop-place : goal.invariant-settled_each-loop-place
invariant-settled_each-loop-place l = record {
  unvisited : goal.unvisited-settled_each-loop-place l;
  same : SameBelow (surroundings_of l.context) l.at l.initial.conds.items l.conds.items l.place;
}

-- each goes down the condition, and one in a list is taken out before it is looked at
abbrev pub decreases-settle_cond : goal.decreases-settle_cond
decreases-settle_cond l = 3 * goal.size-settle_cond l + 1

abbrev pub decreases-settled_cond : goal.decreases-settled_cond
decreases-settled_cond l = 3 * goal.size-settled_cond l

abbrev pub decreases-settled_each : goal.decreases-settled_each
decreases-settled_each l = 3 * goal.size-settled_each l + 2
