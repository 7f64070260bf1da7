use Rattle.std.proofs.Common.{◌≡◌}
use Rattle.tracker_filters.proofs.Settling.{SettledIssues}
use Rattle.tracker_filters.proofs.cells.settle_filter.Given as goal

-- the issues before this one are settled
abbrev pub invariant-loop-verdict : goal.invariant-loop-verdict
invariant-loop-verdict l = record {
  count : l.issue ≡ l.verdict-index;
  settled : SettledIssues l.verdicts l.filter.0 l.verdict-index l.fn.views l.views;
}
