use Rattle.std.proofs.Common.{◌≡◌, map, take}
use Rattle.fields.specs.SetupParts.{parts}
use Rattle.tracker_machine.specs.IssueList.{listed_issue}
use Rattle.page_calls.proofs.issue_list.listed.Given as goal

abbrev pub invariant-loop-issue : goal.invariant-loop-issue
invariant-loop-issue l =
    l.listed ≡ map (λ i. listed_issue (parts l.setup) (map (λ f. f.0) l.fields) i.now.history) (take l.issue-index l.issues)
