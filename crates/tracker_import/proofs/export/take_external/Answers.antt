use Rattle.tracker_import.proofs.IssueByIssue.{no_first}
use Rattle.tracker_import.proofs.export.take_external.Goals as goal

pub returns-else-first-number-clause-id : goal.returns-else-first-number-clause-id
returns-else-first-number-clause-id c =
    no_first _ c.in-Some.first.now c.in-Some.rest.now _ c.requires c.in-Some.ensures.cases.0 c.if-first-number.false
