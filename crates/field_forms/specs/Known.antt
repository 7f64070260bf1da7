-- The names that a text of the setup, or a value, may name.
use Rattle.std.specs.Prelude.{◌≡◌, ℕ, ◌==◌, Bool, true, false, not, ◌||◌, List, [], length, Option, Some, option_map, option_and_then, if◌then◌else◌, ◌≤◌, nat_le}
use Rattle.std.specs.List.{find, list_all}
use Rattle.std.specs.Option.{option_or, option_map_or}
use Rattle.std.specs.Str.{str_eq_ignore_ascii_case}
use Rattle.field_values.specs.declared.numbers.TheConstants.FieldNo as number
use Rattle.field_values.specs.declared.words.FieldKind.{FieldKind}
use Rattle.field_values.specs.declared.words.FieldKind.TheVariants as kind
use Rattle.field_values.specs.declared.field.Field.{Field}
use Rattle.field_forms.specs.declared.form.Form.{Form}
use Rattle.field_forms.specs.declared.form.Form.TheVariants.{Line, Prose, Number, Points, Choice, User, Set, Labels, Date, Sprint}
use Rattle.field_forms.specs.declared.known.Known.{Known}
use Rattle.field_values.specs.declared.value.Value.{Value}
use Rattle.field_values.specs.declared.value.Value.TheVariants.{Empty}
use Rattle.field_forms.specs.BuiltIn.{built_in_no}
use Rattle.field_forms.specs.Values.{value_in, listed_in, is_of_form}

pub record Names : Type 0 where
  pub users : List (List ℕ)
  pub types : List (List ℕ)
  pub statuses : List (List ℕ)
  pub priorities : List (List ℕ)
  pub resolutions : List (List ℕ)
  pub versions : List (List ℕ)
  pub groups : List (List ℕ)
  pub fields : List Field

-- the names that are lent
abbrev pub names_of : Known → Names
names_of known = record {
  users = known.users.now;
  types = known.types.now;
  statuses = known.statuses.now;
  priorities = known.priorities.now;
  resolutions = known.resolutions.now;
  versions = known.versions.now;
  groups = known.groups.now;
  fields = known.fields.now;
}

-- at most 200 options
abbrev pub has_few_options : Field → Bool
has_few_options field = nat_le (length field.options) 200

-- no list is longer than the setup allows
pub record AreFew (names : Names) : Type 0 where
  pub users : length names.users ≤ 200
  pub types : length names.types ≤ 30
  pub statuses : length names.statuses ≤ 50
  pub priorities : length names.priorities ≤ 20
  pub resolutions : length names.resolutions ≤ 50
  pub versions : length names.versions ≤ 500
  pub groups : length names.groups ≤ 100
  pub options : list_all has_few_options names.fields ≡ true

-- the setup's own field of a number, and of a name
abbrev pub own_field : List Field → ℕ → Option Field
own_field fields n = find (λ f. f.number.0 == n) fields

abbrev pub own_field_named : List Field → List ℕ → Option Field
own_field_named fields name = find (λ f. str_eq_ignore_ascii_case f.name name) fields

-- the number of the field of that name
unfoldable pub field_named : List Field → List ℕ → Option ℕ
field_named fields name =
    option_or (built_in_no name) (option_map (λ f. f.number.0) (own_field_named fields name))

-- the form of what a field of the setup's own holds
abbrev pub form_by : FieldKind → Form
form_by kind.Text = Prose 1024
form_by kind.Number = Number
form_by kind.Choice = Choice
form_by kind.User = User
form_by kind.Date = Date

-- the form of what the field holds, if there is such a field
unfoldable pub form_of : List Field → ℕ → Option Form
form_of fields n =
    if (n == number.TYPE.0) || (n == number.STATUS.0) || (n == number.PRIORITY.0)
    || (n == number.RESOLUTION.0) then Some Choice
    else if n == number.SUMMARY.0 then Some (Line 255)
    else if n == number.DESCRIPTION.0 then Some (Prose 4096)
    else if (n == number.ASSIGNEE.0) || (n == number.REPORTER.0) then Some User
    else if n == number.FIX_VERSION.0 then Some Set
    else if n == number.LABELS.0 then Some Labels
    else if n == number.DUE.0 then Some Date
    else if n == number.POINTS.0 then Some Points
    else if n == number.SPRINT.0 then Some Sprint
    else option_map (λ f. form_by f.kind) (own_field fields n)

-- the names that a value of a field of the setup's own may name
abbrev pub own_choices : Names → Field → List (List ℕ)
own_choices names field = own_choices_by field.kind where
  own_choices_by : FieldKind → List (List ℕ)
  own_choices_by kind.User = names.users
  own_choices_by _ = field.options

-- the names that a value of the field may name
unfoldable pub choices_of : Names → ℕ → List (List ℕ)
choices_of names n =
    if n == number.TYPE.0 then names.types
    else if n == number.STATUS.0 then names.statuses
    else if (n == number.ASSIGNEE.0) || (n == number.REPORTER.0) then names.users
    else if n == number.PRIORITY.0 then names.priorities
    else if n == number.RESOLUTION.0 then names.resolutions
    else if n == number.FIX_VERSION.0 then names.versions
    else option_map_or (own_choices names) (own_field names.fields n) []

-- the value that a text stands for in the field
unfoldable pub value_of : Names → ℕ → List ℕ → Option Value
value_of names n text =
    option_and_then (λ form. value_in form (choices_of names n) text) (form_of names.fields n)

-- the value that a list of texts stands for in the field
unfoldable pub listed_value_of : Names → ℕ → List (List ℕ) → Option Value
listed_value_of names n texts =
    option_and_then (λ form. listed_in form (choices_of names n) texts) (form_of names.fields n)

-- type, summary and status are never empty
abbrev pub may_be_empty : ℕ → Bool
may_be_empty n = not ((n == number.TYPE.0) || (n == number.SUMMARY.0) || (n == number.STATUS.0))

-- the value may stand in a field of this form and this number
abbrev pub fits_form : ℕ → List (List ℕ) → Value → Form → Bool
fits_form n names Empty form = may_be_empty n
fits_form n names value form = is_of_form form names value

-- the field may hold the value
unfoldable pub fits : Names → ℕ → Value → Bool
fits names n value =
    option_map_or (fits_form n (choices_of names n) value) (form_of names.fields n) false
