-- The records that an export writes: a header, and then one for each issue.
use Rattle.std.specs.Prelude.{◌≡◌, ◌⊎◌, ℕ, true, List, [], ◌∷◌, map, Option, unwrap_or, codes}
use Rattle.csv.specs.Writing.{default_writer, row_text}
use Rattle.field_values.specs.declared.numbers.FieldNo.{FieldNo}
use Rattle.field_values.specs.declared.numbers.TheConstants.FieldNo as number
use Rattle.field_values.specs.declared.value.Value.{Value}
use Rattle.field_values.specs.declared.value.Value.TheVariants as value
use Rattle.field_forms.specs.Known.{Names, choices_of, fits}
use Rattle.field_forms.specs.Numbers.{number_text}
use Rattle.civil_dates.specs.DateText.{date_text}
use Rattle.fields.specs.Naming.{name_at}
use Rattle.change_history.specs.History.{History, present}
use Rattle.change_history.specs.Key.{project_of}

-- the columns
abbrev pub export_header : List (List ℕ)
export_header =
    codes "key" ∷ codes "external" ∷ codes "project" ∷ codes "type" ∷ codes "summary"
    ∷ codes "status"
    ∷ codes "assignee" ∷ codes "reporter" ∷ codes "priority" ∷ codes "resolution" ∷ codes "points"
    ∷ codes "due" ∷ []

-- the columns from the fourth on are those of these fields
abbrev pub exported_fields : List FieldNo
exported_fields =
    number.TYPE ∷ number.SUMMARY ∷ number.STATUS ∷ number.ASSIGNEE ∷ number.REPORTER
    ∷ number.PRIORITY
    ∷ number.RESOLUTION ∷ number.POINTS ∷ number.DUE ∷ []

-- what stands in the column of a field for a value: a text itself, a choice or a user by name as the setup spells it, a number by
-- its shortest text, a day as yyyy-MM-dd; nothing where it is empty, and for sets, labels and sprints, which have no column
abbrev pub column_text : Names → ℕ → Value → List ℕ
column_text names n value.Empty = []
column_text names n (value.Text text) = text
column_text names n (value.Number z) = number_text z
column_text names n (value.Choice choice) = name_at (choices_of names n) choice.0
column_text names n (value.User user) = name_at names.users user.0
column_text names n (value.Date day) = date_text day.0
column_text names n (value.Set choices) = []
column_text names n (value.Labels labels) = []
column_text names n (value.Sprint sprint) = []

-- what a field of the issue holds now
abbrev pub column_of : Names → History → FieldNo → List ℕ
column_of names h f = column_text names f.0 (present h f)

-- the fields of an issue's record, where this text stands for its external id
abbrev pub columns_of : Names → History → List ℕ → List (List ℕ)
columns_of names h external =
    h.key ∷ external ∷ project_of h.key ∷ map (column_of names h) exported_fields

-- the text of a record: in quotes only where needed, and a line feed alone at its end
abbrev pub record_text : List (List ℕ) → List ℕ
record_text fields = row_text default_writer fields

abbrev pub header_text : List ℕ
header_text = record_text export_header

-- the record of an issue, which may have no external id
abbrev pub issue_text : Names → History → Option (List ℕ) → List ℕ
issue_text names h external = record_text (columns_of names h (unwrap_or external []))

-- each field holds nothing or a value that fits it
abbrev pub HoldsFitting : Names → History → Type 0
HoldsFitting names h =
    (f : FieldNo) → (present h f ≡ value.Empty) ⊎ (fits names f.0 (present h f) ≡ true)
