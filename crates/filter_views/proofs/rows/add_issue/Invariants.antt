use Rattle.std.proofs.Common.{◌≡◌, ◌++◌, take, drop, map}
use Rattle.filter_views.specs.Fields.{with_issue}
use Rattle.filter_views.proofs.rows.add_issue.Given as goal

-- as far as the loop has come
abbrev pub invariant-loop-at : goal.invariant-loop-at
invariant-loop-at l = l.rows ≡ map with_issue (take l.at l.fn.rows) ++ drop l.at l.fn.rows
