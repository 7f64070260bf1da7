-- What is asked of the issue after the inputs.
use Rattle.std.specs.Prelude.{ℕ, ◌+◌, Bool, true, false, not, List, position, Option, option_map, ℤ, pos, int_le}
use Rattle.field_values.specs.declared.numbers.UserNo.{UserNo}
use Rattle.field_values.specs.declared.value.Value.{Value}
use Rattle.field_values.specs.declared.value.Value.TheVariants.{Empty, Date}
use Rattle.field_values.specs.declared.rules.Validator.{Validator}
use Rattle.field_values.specs.declared.rules.Validator.TheVariants.{Required, Changed, Due, Permission}
use Rattle.field_values.specs.declared.parts.Transition.{Transition}
use Rattle.field_values.specs.Parts.{Parts}
use Rattle.setup_drafts.specs.Offsets.{zone_of}
use Rattle.fields.specs.SetupParts.{may}
use Rattle.relative_dates.specs.Calendar.{local_day}
use Rattle.change_history.specs.declared.change.Change.{Change}
use Rattle.change_history.specs.History.{History, present}
use Rattle.field_values.specs.declared.numbers.TheConstants.FieldNo.{DUE as due}
use Rattle.workflow.specs.Same.{same_value, is_empty}
use Rattle.workflow.specs.Net.{with_changes}
use Rattle.workflow.specs.Conditions.{project_number}

-- the local day of a moment
abbrev pub today : Parts → ℕ → ℤ
today setup at = local_day (zone_of setup.utc_offset_minutes setup.offset) (pos at)

-- empty, or a date that isn't before the day
abbrev pub is_open : ℤ → Value → Bool
is_open day Empty = true
is_open day (Date other) = int_le day other.0
is_open day _ = false

-- what a validator asks; the status and the post functions come later, so it doesn't see them
abbrev pub validator_holds : Parts → History → UserNo → List Change → ℕ → Validator → Bool
-- `required:FIELD`: the field isn't empty after the inputs
validator_holds setup h caller inputs at (Required field) =
    not (is_empty (with_changes (present h) inputs field))
-- `changed:FIELD`: the field holds another value after the inputs than before
validator_holds setup h caller inputs at (Changed field) =
    not (same_value (with_changes (present h) inputs field) (present h field))
-- `due`: the due date after the inputs is empty, or not before the local day of the present moment
validator_holds setup h caller inputs at Due =
    is_open (today setup at) (with_changes (present h) inputs due)
-- `permission:NAME`: the caller has the permission in the issue's project
validator_holds setup h caller inputs at (Permission permission) =
    may setup caller.0 permission (project_number setup h)

-- the first validator that fails, counted from 1
unfoldable pub failing_validator : Parts → History → UserNo → Transition → List Change → ℕ
    → Option ℕ
failing_validator setup h caller t inputs at =
    option_map (λ k. k
    + 1) (position (λ validator. not (validator_holds setup h caller inputs at validator))
    t.validators)
