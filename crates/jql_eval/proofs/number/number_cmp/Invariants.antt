use Rattle.std.proofs.Common.{◌≡◌}
use Rattle.jql_eval.specs.Numbers.{number_before, lead}
use Rattle.jql_eval.proofs.number.number_cmp.Given as goal

abbrev pub invariant-loop-left : goal.invariant-loop-left
invariant-loop-left l = record {
  ahead : l.ahead ≡ lead (number_before l.one l.left) (number_before l.other l.left);
  behind : l.behind ≡ lead (number_before l.other l.left) (number_before l.one l.left);
}

abbrev pub decreases-loop-left : goal.decreases-loop-left
decreases-loop-left l = l.left
