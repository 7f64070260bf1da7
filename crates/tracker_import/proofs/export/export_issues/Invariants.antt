use Rattle.std.proofs.Common.{◌≤◌, ◌++◌, length}
use Rattle.fields.specs.SetupParts.{names_in}
use Rattle.tracker_import.specs.Export.{issues_text}
use Rattle.tracker_import.proofs.IssueByIssue.{IsExporting}
use Rattle.tracker_import.proofs.export.export_issues.Given as goal

abbrev pub invariant-loop-place : goal.invariant-loop-place
invariant-loop-place g l = record {
  so_far : IsExporting (names_in l.state.machine.setup) l.state.machine.externals l.state.machine.histories
      (l.fn.pending.items ++ issues_text (names_in l.state.machine.setup) l.state.machine.externals l.state.machine.histories)
      (g.T.Sink.taken l.fn.out) (g.T.Sink.taken l.out) l.pending.items l.ids l.place;
  within : l.place ≤ length l.state.machine.histories;
  write_later : g.T.Sink.faults l.fn.out ≤ g.T.Sink.faults l.out;
}
