-- Who may do what with an issue.
use Rattle.std.specs.Prelude.{ℕ, Option, Some, None}
use Rattle.field_values.specs.declared.rules.Permission.{Permission}
use Rattle.change_history.specs.History.{History}
use Rattle.workflow.specs.Conditions.{project_number}
use Rattle.tracker_calls.specs.declared.cause.Cause.{Cause}
use Rattle.tracker_machine.specs.Machine.{Machine}
use Rattle.tracker_machine.specs.Checks.{permission_refusal}

-- the caller has a permission in the issue's project
abbrev pub access_refusal : Machine → ℕ → Permission → Option History → Option Cause
access_refusal m caller permission None = None
access_refusal m caller permission (Some h) =
    permission_refusal m caller permission (project_number m.setup h)
