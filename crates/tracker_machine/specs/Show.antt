-- The call `show`: an issue's present values.
use Rattle.std.specs.Prelude.{ℕ, List, [], ◌∷◌, Option, Some, None}
use Rattle.field_values.specs.declared.rules.Permission.TheVariants as permission
use Rattle.field_values.specs.declared.value.Value.{Value}
use Rattle.field_values.specs.declared.value.Value.TheVariants as value
use Rattle.field_forms.specs.Known.{Names, choices_of}
use Rattle.field_forms.specs.Numbers.{number_text}
use Rattle.fields.specs.SetupParts.{names_in}
use Rattle.field_forms.specs.ValueTexts.{chosen_names}
use Rattle.civil_dates.specs.DateText.{date_text}
use Rattle.change_history.specs.History.{History, present, updated}
use Rattle.tracker_calls.specs.declared.reply.Answer.{Answer}
use Rattle.tracker_calls.specs.declared.reply.Answer.TheVariants as answer
use Rattle.tracker_calls.specs.declared.cause.Cause.{Cause}
use Rattle.tracker_calls.specs.declared.cause.Cause.TheVariants as cause
use Rattle.tracker_calls.specs.declared.reply.Shown.{Shown}
use Rattle.tracker_calls.specs.declared.reply.Shown.TheVariants as shown
use Rattle.tracker_calls.specs.declared.reply.ShownField.{ShownField}
use Rattle.tracker_calls.specs.declared.cause.Thing.TheVariants as thing
use Rattle.tracker_machine.specs.Machine.{Machine}
use Rattle.fields.specs.Naming.{name_at, field_name, field_numbers}
use Rattle.tracker_machine.specs.Known.{history_named}
use Rattle.tracker_machine.specs.Checks.{or_then, unless_known}
use Rattle.tracker_machine.specs.Access.{access_refusal}
use Rattle.tracker_machine.specs.Meaning.{Meaning, unless}
use Rattle.tracker_machine.specs.Meaning.Meaning.{Tells}

-- a value as it is told: a choice or a user by name, versions as the list of their names, a number by its shortest
-- text, a day as yyyy-MM-dd, and a sprint by its number; a value that is empty isn't told
abbrev pub shown_value : Names → ℕ → Value → Option Shown
shown_value names n value.Empty = None
shown_value names n (value.Text text) = Some (shown.Text text)
shown_value names n (value.Number z) = Some (shown.Text (number_text z))
shown_value names n (value.Choice choice) =
    Some (shown.Text (name_at (choices_of names n) choice.0))
shown_value names n (value.User user) = Some (shown.Text (name_at names.users user.0))
shown_value names n (value.Date day) = Some (shown.Text (date_text day.0))
shown_value names n (value.Set choices) = Some (shown.List (chosen_names names.versions choices))
shown_value names n (value.Labels labels) = Some (shown.List labels)
shown_value names n (value.Sprint sprint) = Some (shown.Number sprint.0)

abbrev pub with_shown : List ℕ → Option Shown → List ShownField → List ShownField
with_shown name None more = more
with_shown name (Some s) more = (record { name = name; value = s }) ∷ more

abbrev pub shown_fields : Names → History → List ℕ → List ShownField
shown_fields names h [] = []
shown_fields names h (n ∷ ns) =
    with_shown (field_name names.fields n) (shown_value names n (present h (record { 0 = n })))
    (shown_fields names h ns)

-- all fields that aren't empty
unfoldable pub shown_issue : Names → History → List ShownField
shown_issue names h = shown_fields names h (field_numbers names.fields)

abbrev pub show_refusal : Machine → ℕ → List ℕ → Option Cause
show_refusal m caller issue =
    or_then (unless_known (history_named m issue) (cause.Unknown thing.Issue issue))
    (access_refusal m caller permission.Browse (history_named m issue))

abbrev pub show_answer_of : Machine → Option History → Answer
show_answer_of m None = answer.Show 0 [] [] 0
show_answer_of m (Some h) = answer.Show h.at (shown_issue (names_in m.setup) h) h.key (updated h)

abbrev pub show_meaning : Machine → ℕ → List ℕ → Meaning
show_meaning m caller issue =
    unless (show_refusal m caller issue) (Tells (show_answer_of m (history_named m issue)))
