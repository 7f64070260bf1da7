use Rattle.std.proofs.Common.{subst}
use Rattle.std.specs.Io.KnownBytes.{Appends}
use Rattle.tracker_import.proofs.IssueByIssue.{front_of_whole, whole_text}
use Rattle.tracker_import.proofs.export.export_rows.Goals as goal

pub returns-in-Err-Write-clause-run : goal.returns-in-Err-Write-clause-run
returns-in-Err-Write-clause-run g c =
    front_of_whole _ _ _ _ _ _ c.state.ensures.machine c.new-pending.ensures.items c.in-Ok.ensures.ok c.in-Err-Write.ensures.bytes

pub returns-clause-run : goal.returns-clause-run
returns-clause-run g c = front_of_whole _ _ _ _ _ _ c.state.ensures.machine c.new-pending.ensures.items c.in-Ok.ensures.ok c.in-Err-Memory.ensures.bytes

pub returns-in-Ok-export_issues-clause-run : goal.returns-in-Ok-export_issues-clause-run
returns-in-Ok-export_issues-clause-run g c =
    subst (λ l. Appends (g.T.Sink.taken c.args.out.now) (g.T.Sink.taken c.export_issues.new.out) l)
    (whole_text _ _ _ _ c.state.ensures.machine c.new-pending.ensures.items c.in-Ok.ensures.ok) c.in-Ok-export_issues.ensures.bytes
