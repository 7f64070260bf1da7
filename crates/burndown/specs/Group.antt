-- The sprints that a change group names: the issue's sprint before, and another one after.
use Rattle.std.specs.Prelude.{ℕ, ◌==◌, Option, Some, None, if◌then◌else◌}
use Rattle.field_values.specs.declared.numbers.SprintNo.{SprintNo}
use Rattle.field_values.specs.declared.numbers.IssueNo.{IssueNo}
use Rattle.burndown.specs.declared.share.Share.{Share}
use Rattle.burndown.specs.declared.group.Group.{Group}

abbrev pub sprint_before : Option Share → Option SprintNo
sprint_before None = None
sprint_before (Some share) = share.sprint

abbrev pub first_sprint : Group → Option SprintNo
first_sprint group = sprint_before group.before

-- the sprint after, unless it is the one before
abbrev pub other_than : Option SprintNo → Option SprintNo → Option SprintNo
other_than None second = second
other_than (Some first) None = None
other_than (Some first) (Some second) = if first.0 == second.0 then None else Some second

abbrev pub second_sprint : Group → Option SprintNo
second_sprint group = other_than (first_sprint group) group.after.sprint

abbrev pub group_of : ℕ → ℕ → IssueNo → Option Share → Share → Group
group_of change at issue before after =
    record { change = change; at = at; issue = issue; before = before; after = after }
