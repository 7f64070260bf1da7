-- What a call wants each field to hold.
use Rattle.std.specs.Prelude.{ℕ, ◌==◌, ◌||◌, Bool, true, false, not, nat_le, List, [], ◌∷◌, ◌++◌, Option, Some, None, filter, if◌then◌else◌}
use Rattle.std.specs.Option.{option_or, option_map_or}
use Rattle.field_values.specs.declared.numbers.TheConstants.FieldNo as number
use Rattle.field_values.specs.declared.field.Field.{Field}
use Rattle.field_values.specs.declared.value.Value.{Value}
use Rattle.field_values.specs.declared.value.Value.TheVariants as value
use Rattle.field_forms.specs.Known.{Names, fits, value_of, listed_value_of}
use Rattle.change_history.specs.declared.change.Change.{Change}
use Rattle.workflow.specs.Inputs.{least_with}
use Rattle.tracker_calls.specs.declared.given.Given.{Given}
use Rattle.tracker_calls.specs.declared.given.Given.TheVariants as given
use Rattle.tracker_calls.specs.declared.given.GivenField.{GivenField}
use Rattle.tracker_machine.specs.declared.wanted.Wanted.{Wanted}
use Rattle.tracker_machine.specs.declared.wanted.Wanted.TheVariants as wanted
use Rattle.fields.specs.Naming.{field_numbers}
use Rattle.tracker_machine.specs.Known.{names_field}

-- what is given for a field: of names in the same letters the last one counts
abbrev pub given_for : List Field → ℕ → List GivenField → Option Given
given_for fields n [] = None
given_for fields n (g ∷ gs) =
    option_or (given_for fields n gs) (if names_field fields n g.name then Some g.given else None)

abbrev pub wanted_or : Option Value → Wanted
wanted_or None = wanted.NoValue
wanted_or (Some v) = wanted.Value v

-- fixVersion and labels take a list of texts, sprint takes a whole number, and every other field takes a text
abbrev pub takes_text : ℕ → Bool
takes_text n =
    not ((n == number.FIX_VERSION.0) || ((n == number.LABELS.0) || (n == number.SPRINT.0)))

-- the number of a sprint, among numbers of any size
abbrev pub sprint_number : Given → Option ℕ
sprint_number (given.Number k) = if nat_le k 4_294_967_295 then Some k else None
sprint_number _ = None

abbrev pub sprint_wanted : Option ℕ → Wanted
sprint_wanted None = wanted.NoValue
sprint_wanted (Some k) = wanted.Value (value.Sprint (record { 0 = k }))

-- null empties a field, and anything else is read as the value that the field takes
abbrev pub wanted_by : Names → ℕ → Given → Wanted
wanted_by names n given.Null = wanted.Value value.Empty
wanted_by names n (given.Text text) =
    if takes_text n then wanted_or (value_of names n text) else wanted.NoValue
wanted_by names n (given.List texts) = wanted_or (listed_value_of names n texts)
wanted_by names n (given.Number k) =
    if n == number.SPRINT.0 then sprint_wanted (sprint_number (given.Number k)) else wanted.NoValue
wanted_by names n given.Other = wanted.NoValue

-- the status is never given
abbrev pub wanted_given : Names → ℕ → Given → Wanted
wanted_given names n g = if n == number.STATUS.0 then wanted.NoValue else wanted_by names n g

abbrev pub wanted_in : Names → ℕ → List GivenField → Wanted
wanted_in names n set =
    option_map_or (wanted_given names n) (given_for names.fields n set) wanted.Nothing

-- a field is at fault where what is wanted of it is none of its values, or one that doesn't fit
abbrev pub is_fault : Names → ℕ → Wanted → Bool
is_fault names n wanted.Nothing = false
is_fault names n wanted.NoValue = true
is_fault names n (wanted.Value v) = not (fits names n v)

-- those of some fields that are at fault
abbrev pub faults_in : Names → (ℕ → Wanted) → List ℕ → List ℕ
faults_in names wants numbers = filter (λ n. is_fault names n (wants n)) numbers

-- the first field at fault, by its number
unfoldable pub field_at_fault : Names → (ℕ → Wanted) → Option ℕ
field_at_fault names wants = least_with None (faults_in names wants (field_numbers names.fields))

-- the change of a field of which a value is wanted
abbrev pub change_to : ℕ → Wanted → List Change
change_to n (wanted.Value v) = (record { field = record { 0 = n }; to = v }) ∷ []
change_to n _ = []

abbrev pub changes_to : (ℕ → Wanted) → List ℕ → List Change
changes_to wants [] = []
changes_to wants (n ∷ ns) = change_to n (wants n) ++ changes_to wants ns

-- the changes of all fields of which values are wanted
unfoldable pub changes_of : Names → (ℕ → Wanted) → List Change
changes_of names wants = changes_to wants (field_numbers names.fields)
