use Rattle.std.proofs.Common.{◌≡◌, [], take}
use Rattle.tracker_issues.specs.Counts.{counts_of}
use Rattle.tracker_issues.proofs.issues.no_counts.Given as goal

abbrev pub invariant-loop : goal.invariant-loop
invariant-loop l = l.counts.items ≡ counts_of (take l.index l.projects) []
