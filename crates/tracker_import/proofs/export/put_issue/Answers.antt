use Rattle.std.proofs.Common.{ap}
use Rattle.std.specs.Prelude.{option_map}
use Rattle.fields.specs.SetupParts.{names_in}
use Rattle.tracker_import.proofs.IssueByIssue.{put_record}
use Rattle.tracker_import.proofs.export.put_issue.Goals as goal

pub returns-in-Some-clause-ok : goal.returns-in-Some-clause-ok
returns-in-Some-clause-ok c =
    put_record c.write_issue.result c.args.state.now.machine.histories c.args.place c.in-Some.issue.now.history _ _
    (option_map (λ id. id.now) c.args.external) _ _ c.in-Some.ensures.history (ap names_in c.setup.ensures) c.write_issue.ensures.ok
