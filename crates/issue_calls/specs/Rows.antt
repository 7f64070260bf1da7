-- The rows of an issue and of its change groups.
use Rattle.std.specs.Prelude.{ℕ, List, [], ◌∷◌, Option, Some, None}
use Rattle.field_values.specs.declared.numbers.IssueNo.{IssueNo}
use Rattle.tracker_keeper.specs.declared.row.Row.{Row}
use Rattle.tracker_keeper.specs.declared.row.RowOp.{RowOp}
use Rattle.field_forms.specs.Known.{Names}
use Rattle.change_history.specs.declared.entry.Group.{Group}
use Rattle.change_history.specs.History.{History}
use Rattle.tracker_keeper.specs.Bodies.{body_text}
use Rattle.tracker_machine.specs.Kept.{issue_part, group_part}
use Rattle.tracker_state.specs.Rows.{external_op}

-- the row of an issue as it was created
abbrev pub issue_row : Names → History → Row
issue_row names h = record { kind = 3; no = h.no.0; body = body_text names (issue_part h) }

-- and of a change group of it
abbrev pub group_row : Names → History → Group → Row
group_row names h group =
    record { kind = 4; no = group.change; body = body_text names (group_part h group) }

-- the operation that keeps an issue's external id, if it has one
abbrev pub external_ops : IssueNo → Option (List ℕ) → List RowOp
external_ops issue None = []
external_ops issue (Some id) = external_op issue id ∷ []
