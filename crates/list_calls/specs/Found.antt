-- The issues that a query finds in its order, and those that two users may browse.
use Rattle.std.specs.Prelude.{◌-◌, ◌&&◌, ℕ, Bool, List, slice_get, Option, Some, None, option_and_then, if◌then◌else◌}
use Rattle.field_values.specs.declared.numbers.IssueNo.{IssueNo}
use Rattle.field_values.specs.declared.rules.Permission.TheVariants.{Browse}
use Rattle.fields.specs.SetupParts.{may}
use Rattle.change_history.specs.History.{History}
use Rattle.workflow.specs.Conditions.{project_number}
use Rattle.tracker_machine.specs.Machine.{Machine}
use Rattle.tracker_machine.specs.Query.{Query}
use Rattle.tracker_machine.specs.Search.{found, listed}

-- what a caller finds by a query, in its order
abbrev pub found_in_order : Machine → ℕ → Query → List History
found_in_order m caller query =
    listed m.setup query.keys m.order (found m caller query.condition)

-- both users may browse the issue
abbrev pub may_both : Machine → ℕ → ℕ → History → Bool
may_both m owner caller h =
    may m.setup owner Browse (project_number m.setup h)
    && may m.setup caller Browse (project_number m.setup h)

abbrev pub if_both : Machine → ℕ → ℕ → History → Option History
if_both m owner caller h = if may_both m owner caller h then Some h else None

-- the issue of a number, where both users may browse it
abbrev pub browsed : Machine → ℕ → ℕ → IssueNo → Option History
browsed m owner caller number =
    option_and_then (if_both m owner caller) (slice_get m.histories (number.0 - 1))
