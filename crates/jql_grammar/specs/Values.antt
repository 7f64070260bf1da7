-- What a text stands for where a field is compared with it.
use Rattle.std.specs.Prelude.{ℕ, ◌+◌, List, [], ◌∷◌, map, Option, Some, None, option_map, option_and_then, if◌then◌else◌, Result, Err, codes}
use Rattle.std.specs.List.{slice_get}
use Rattle.field_values.specs.declared.numbers.ChoiceNo.{ChoiceNo}
use Rattle.field_values.specs.declared.numbers.TheConstants.FieldNo as number
use Rattle.field_values.specs.declared.parts.Project.{Project as AProject}
use Rattle.field_values.specs.declared.status.Status.{Status}
use Rattle.field_values.specs.declared.words.Category.{Category}
use Rattle.field_values.specs.declared.value.Value.{Value}
use Rattle.field_values.specs.declared.value.Value.TheVariants as value
use Rattle.field_forms.specs.Names.{place_named}
use Rattle.field_forms.specs.Known.{value_of}
use Rattle.fields.specs.SetupParts.{choice_named}
use Rattle.field_forms.specs.Values.{is_label}
use Rattle.relative_dates.specs.Reading.{read_term}
use Rattle.jql_bound.specs.declared.operand.Operand.{Operand}
use Rattle.jql_bound.specs.declared.operand.Operand.TheVariants as operand
use Rattle.jql_grammar.specs.declared.fault.FaultKind.{FaultKind}
use Rattle.jql_grammar.specs.declared.fault.FaultKind.TheVariants.{UnknownValue, UnknownUserOrGroup}
use Rattle.jql_grammar.specs.declared.column.ValueKind.{ValueKind}
use Rattle.jql_grammar.specs.declared.column.ValueKind.TheVariants.{Text, Choice, Priority, Resolution, User, Versions, Labels, Date, Number, Sprint, Project, Key, Category as TheCategory}
use Rattle.jql_grammar.specs.Steps.{some_or}
use Rattle.jql_grammar.specs.Scope.{Scope}
use Rattle.relative_dates.specs.Call.{is_named}
use Rattle.jql_grammar.specs.Forms.{number_in, is_issue_key, category_named, is_same_category}

-- a choice of the field of that number
abbrev pub choice_in : Scope → ℕ → List ℕ → Option Operand
choice_in scope field text =
    option_map (λ place. operand.Choice (record { 0 = place }))
    (choice_named scope.names field text)

-- Unresolved is what a resolution is called that isn't there
abbrev pub resolution_in : Scope → List ℕ → Option Operand
resolution_in scope text =
    if is_named text (codes "Unresolved") then Some operand.Empty
    else choice_in scope number.RESOLUTION.0 text

abbrev pub user_in : Scope → List ℕ → Result Operand FaultKind
user_in scope text =
    some_or UnknownUserOrGroup (option_map (λ place. operand.User (record { 0 = place }))
    (place_named text scope.names.users))

abbrev pub label_in : List ℕ → Option Operand
label_in text = if is_label text then Some (operand.Label text) else None

-- a number that the field may hold
abbrev pub number_or_none : Option Value → Option Operand
number_or_none (Some (value.Number z)) = Some (operand.Number z)
number_or_none _ = None

abbrev pub number_operand : Scope → ℕ → List ℕ → Option Operand
number_operand scope field text = number_or_none (value_of scope.names field text)

-- a sprint and an issue need not be there, and a project must
abbrev pub sprint_in : List ℕ → Option Operand
sprint_in text = option_map (λ n. operand.Sprint (record { 0 = n })) (number_in text)

abbrev pub issue_in : List ℕ → Option Operand
issue_in text = if is_issue_key text then Some (operand.Issue text) else None

abbrev pub project_in : Scope → List ℕ → Option AProject
project_in scope text =
    option_and_then (slice_get scope.projects) (place_named text (map (λ p. p.key) scope.projects))

-- those statuses, from a place on, that are of the category
abbrev pub statuses_of : Category → ℕ → List Status → List ChoiceNo
statuses_of category place [] = []
statuses_of category place (status ∷ statuses) =
    if is_same_category status.category category
    then record { 0 = place } ∷ statuses_of category (place + 1) statuses
    else statuses_of category (place + 1) statuses

abbrev pub category_in : Scope → List ℕ → Option Operand
category_in scope text =
    option_map (λ category. operand.Statuses (statuses_of category 0 scope.statuses))
    (category_named text)

-- the value that a text stands for
unfoldable pub value_in : Scope → ValueKind → List ℕ → Result Operand FaultKind
value_in scope Text text = Err UnknownValue
value_in scope (Choice field) text = some_or UnknownValue (choice_in scope field.0 text)
value_in scope Priority text = some_or UnknownValue (choice_in scope number.PRIORITY.0 text)
value_in scope Resolution text = some_or UnknownValue (resolution_in scope text)
value_in scope User text = user_in scope text
value_in scope Versions text = some_or UnknownValue (choice_in scope number.FIX_VERSION.0 text)
value_in scope Labels text = some_or UnknownValue (label_in text)
value_in scope Date text = some_or UnknownValue (option_map operand.Date (read_term text))
value_in scope (Number field) text = some_or UnknownValue (number_operand scope field.0 text)
value_in scope Sprint text = some_or UnknownValue (sprint_in text)
value_in scope Project text =
    some_or UnknownValue (option_map (λ p. operand.Project p.key) (project_in scope text))
value_in scope Key text = some_or UnknownValue (issue_in text)
value_in scope TheCategory text = some_or UnknownValue (category_in scope text)
