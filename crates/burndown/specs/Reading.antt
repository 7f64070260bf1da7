-- How an issue's values are read as its share.
use Rattle.std.specs.Prelude.{ℤ, pos, Bool, false, Option, Some, None}
use Rattle.field_values.specs.declared.numbers.TheConstants.FieldNo as number
use Rattle.field_values.specs.declared.numbers.ChoiceNo.{ChoiceNo}
use Rattle.field_values.specs.declared.numbers.FieldNo.{FieldNo}
use Rattle.field_values.specs.declared.numbers.SprintNo.{SprintNo}
use Rattle.field_values.specs.declared.value.Value.{Value}
use Rattle.field_values.specs.declared.value.Value.TheVariants as value
use Rattle.burndown.specs.declared.share.Share.{Share}

abbrev pub status : FieldNo
status = number.STATUS

abbrev pub points : FieldNo
points = number.POINTS

abbrev pub sprint : FieldNo
sprint = number.SPRINT

abbrev pub sprint_in : Value → Option SprintNo
sprint_in (value.Sprint sprint) = Some sprint
sprint_in other = None

-- empty points count 0
abbrev pub points_in : Value → ℤ
points_in (value.Number thousandths) = thousandths
points_in other = pos 0

abbrev pub is_done_in : (ChoiceNo → Bool) → Value → Bool
is_done_in is_done (value.Choice status) = is_done status
is_done_in is_done other = false

-- the share by the fields sprint, points and status, where it is known which statuses are of the category done
abbrev pub share_of : (ChoiceNo → Bool) → (FieldNo → Value) → Share
share_of is_done values = record {
  sprint = sprint_in (values sprint);
  points = points_in (values points);
  done = is_done_in is_done (values status);
}
