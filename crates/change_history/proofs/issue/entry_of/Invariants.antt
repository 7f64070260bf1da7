use Rattle.std.proofs.Common.{◌≡◌, ◌≤◌, drop}
use Rattle.std.specs.Prelude.{slice_get}
use Rattle.change_history.specs.Span.{entries_of}
use Rattle.change_history.proofs.issue.entry_of.Given as goal

abbrev pub invariant-loop-entry : goal.invariant-loop-entry
invariant-loop-entry l = record {
  left : l.left ≤ l.k;
  same : slice_get (entries_of l.entries l.field) l.k ≡ slice_get (entries_of (drop l.entry-index l.entries) l.field) l.left;
}
