-- The texts of values.
use Rattle.std.specs.Prelude.{◌≡◌, ◌<◌, ℕ, List, Some, true, length, decimal}
use Rattle.std.specs.List.{filter_map, slice_get}
use Rattle.field_values.specs.declared.numbers.ChoiceNo.{ChoiceNo}
use Rattle.field_values.specs.declared.value.Value.{Value}
use Rattle.field_values.specs.declared.value.Value.TheVariants.{Empty, Text, Number, Choice, User, Date, Set, Labels, Sprint}
use Rattle.field_forms.specs.Numbers.{number_text}
use Rattle.civil_dates.specs.DateText.{date_text}
use Rattle.civil_dates.specs.Days.{is_day}
use Rattle.field_forms.specs.TextLists.{array_text}

-- the names of some choices
abbrev pub chosen_names : List (List ℕ) → List ChoiceNo → List (List ℕ)
chosen_names names choices = filter_map (λ choice. slice_get names choice.0) choices

-- the text of a value, whose names are these; what is empty has none
abbrev pub IsTextOf : List (List ℕ) → Value → List ℕ → Type 0
IsTextOf names Empty text = ⊥
IsTextOf names (Text t) text = text ≡ t
IsTextOf names (Number z) text = text ≡ number_text z
IsTextOf names (Choice choice) text = Some text ≡ slice_get names choice.0
IsTextOf names (User user) text = Some text ≡ slice_get names user.0
IsTextOf names (Date day) text = text ≡ date_text day.0
IsTextOf names (Set choices) text = text ≡ array_text (chosen_names names choices)
IsTextOf names (Labels labels) text = text ≡ array_text labels
IsTextOf names (Sprint sprint) text = text ≡ decimal sprint.0

-- a choice and a user have a name among these, and a day is one of the years 1970 to 2099
abbrev pub IsInside : List (List ℕ) → Value → Type 0
IsInside names (Choice choice) = choice.0 < length names
IsInside names (User user) = user.0 < length names
IsInside names (Date day) = is_day day.0 ≡ true
IsInside names _ = Unit {0}

-- a value whose text is read as it: a text, a number, a choice, a user or a date
abbrev pub IsReadBack : Value → Type 0
IsReadBack (Text t) = Unit {0}
IsReadBack (Number z) = Unit {0}
IsReadBack (Choice choice) = Unit {0}
IsReadBack (User user) = Unit {0}
IsReadBack (Date day) = Unit {0}
IsReadBack _ = ⊥
