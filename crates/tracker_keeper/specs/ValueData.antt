-- Values of fields as JSON.
use Rattle.std.specs.Prelude.{ℕ}
use Rattle.field_values.specs.declared.value.Value.{Value}
use Rattle.field_values.specs.declared.value.Value.TheVariants as value
use Rattle.field_forms.specs.TextLists.{texts_data}
use Rattle.json_texts.specs.JsonData.{natural}
use Rattle.field_forms.specs.Known.{Names, choices_of}
use Rattle.field_forms.specs.Numbers as numbers
use Rattle.field_forms.specs.ValueTexts.{chosen_names}
use Rattle.civil_dates.specs.DateText.{date_text}
use Rattle.serde_json.specs.Data.{Data, null, string}
use Rattle.fields.specs.Naming.{name_at}

-- a value of a field: a choice or a user by name, a set as the list of its names, a number by its shortest text, a day as
-- yyyy-MM-dd, a sprint by its number, and null where it is empty
abbrev pub value_data : Names → ℕ → Value → Data
value_data names n value.Empty = null
value_data names n (value.Text text) = string text
value_data names n (value.Number z) = string (numbers.number_text z)
value_data names n (value.Choice choice) = string (name_at (choices_of names n) choice.0)
value_data names n (value.User user) = string (name_at (choices_of names n) user.0)
value_data names n (value.Date day) = string (date_text day.0)
value_data names n (value.Set choices) = texts_data (chosen_names (choices_of names n) choices)
value_data names n (value.Labels labels) = texts_data labels
value_data names n (value.Sprint sprint) = natural sprint.0
