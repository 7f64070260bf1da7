-- Which values an operand names.
use Rattle.std.specs.Prelude.{ℕ, ◌==◌, Bool, true, false, List, ℤ}
use Rattle.std.specs.List.{list_any}
use Rattle.std.specs.Str.{bytes_eq}
use Rattle.std.specs.Ordering.{int_eq}
use Rattle.field_values.specs.declared.numbers.ChoiceNo.{ChoiceNo}
use Rattle.field_values.specs.declared.numbers.UserNo.{UserNo}
use Rattle.field_values.specs.declared.numbers.SprintNo.{SprintNo}
use Rattle.field_values.specs.declared.value.Value.{Value}
use Rattle.jql_bound.specs.declared.operand.Operand.{Operand}
use Rattle.jql_meaning.specs.Surroundings.{Surroundings, members_of}

abbrev pub is_empty : Value → Bool
is_empty Value.Empty = true
is_empty v = false

abbrev pub names_nothing : Operand → Bool
names_nothing Operand.Empty = true
names_nothing operand = false

abbrev pub names_text : Operand → List ℕ → Bool
names_text (Operand.Label label) text = bytes_eq text label
names_text operand text = false

abbrev pub names_number : Operand → ℤ → Bool
names_number (Operand.Number other) number = int_eq number other
names_number operand number = false

abbrev pub names_choice : Operand → ChoiceNo → Bool
names_choice (Operand.Choice other) choice = choice.0 == other.0
names_choice (Operand.Statuses statuses) choice = list_any (λ status. status.0 == choice.0) statuses
names_choice operand choice = false

abbrev pub names_user : Surroundings → Operand → UserNo → Bool
names_user s (Operand.User other) user = user.0 == other.0
names_user s (Operand.MembersOf group) user =
    list_any (λ member. member.0 == user.0) (members_of s group)
names_user s operand user = false

abbrev pub names_sprint : Operand → SprintNo → Bool
names_sprint (Operand.Sprint other) sprint = sprint.0 == other.0
names_sprint operand sprint = false

-- The operand names the value, whenever it is asked. Whether it does goes by the moment for dates, and for sprints also by how far
-- they are; those are compared in the present alone, and no query asks for the past of such a field.
abbrev pub names : Surroundings → Operand → Value → Bool
names s operand Value.Empty = names_nothing operand
names s operand (Value.Text text) = names_text operand text
names s operand (Value.Number number) = names_number operand number
names s operand (Value.Choice choice) = names_choice operand choice
names s operand (Value.User user) = names_user s operand user
names s operand (Value.Date day) = false
names s operand (Value.Set choices) = false
names s operand (Value.Labels labels) = false
names s operand (Value.Sprint sprint) = names_sprint operand sprint

-- one of the values that a field's value has passes: a set has each of its choices, labels are texts, and every other value
-- has itself alone
abbrev pub some_value : (Value → Bool) → Value → Bool
some_value p (Value.Set choices) = list_any (λ choice. p (Value.Choice choice)) choices
some_value p (Value.Labels labels) = list_any (λ label. p (Value.Text label)) labels
some_value p v = p v

-- the field's value has one that an operand names
abbrev pub has_named : Surroundings → List Operand → Value → Bool
has_named s operands v = list_any (λ operand. some_value (names s operand) v) operands

-- two values, neither of them of several, are the same
abbrev pub is_same : Value → Value → Bool
is_same Value.Empty Value.Empty = true
is_same (Value.Text text) (Value.Text other) = bytes_eq text other
is_same (Value.Number number) (Value.Number other) = int_eq number other
is_same (Value.Choice choice) (Value.Choice other) = choice.0 == other.0
is_same (Value.User user) (Value.User other) = user.0 == other.0
is_same (Value.Date day) (Value.Date other) = int_eq day.0 other.0
is_same (Value.Sprint sprint) (Value.Sprint other) = sprint.0 == other.0
is_same v w = false
