-- The one text of each rule of a transition, in which names are spelled as the setup has them.
use Rattle.std.specs.Prelude.{ℕ, ◌-◌, List, [], ◌∷◌, ◌++◌, codes, decimal}
use Rattle.field_values.specs.declared.value.Value.{Value}
use Rattle.field_values.specs.declared.value.Value.TheVariants as value
use Rattle.field_values.specs.declared.rules.CallerTest.{CallerTest}
use Rattle.field_values.specs.declared.rules.CallerTest.TheVariants.{IsAssignee, IsReporter, InGroup, HasPermission}
use Rattle.field_values.specs.declared.rules.Condition.{Condition}
use Rattle.field_values.specs.declared.rules.Condition.TheVariants.{Test, AnyOf}
use Rattle.field_values.specs.declared.rules.Validator.{Validator}
use Rattle.field_values.specs.declared.rules.Validator.TheVariants.{Required, Changed, Due, Permission as PermissionOf}
use Rattle.field_values.specs.declared.rules.PostFunction.{PostFunction}
use Rattle.field_values.specs.declared.rules.PostFunction.TheVariants.{Set, Clear, AssignCaller, AssignReporter, AssignLead, Resolution}
use Rattle.field_forms.specs.Known.{Names, choices_of}
use Rattle.field_forms.specs.Numbers.{number_text}
use Rattle.field_forms.specs.Rules.{permission_name}
use Rattle.field_forms.specs.TextLists.{array_text}
use Rattle.field_forms.specs.ValueTexts.{chosen_names}
use Rattle.civil_dates.specs.DateText.{date_text}
use Rattle.fields.specs.Naming.{name_at, field_name}

-- `assignee`, `reporter`, `group:NAME` or `permission:NAME`
abbrev pub test_text : Names → CallerTest → List ℕ
test_text names IsAssignee = codes "assignee"
test_text names IsReporter = codes "reporter"
test_text names (InGroup group) = codes "group:" ++ name_at names.groups (group.0 - 1)
test_text names (HasPermission permission) = codes "permission:" ++ permission_name permission

-- the texts of more tests, each behind a `|`
abbrev pub more_tests_text : Names → List CallerTest → List ℕ
more_tests_text names [] = []
more_tests_text names (test ∷ tests) = 124 ∷ test_text names test ++ more_tests_text names tests

-- the texts of tests, with `|` between them
abbrev pub tests_text : Names → List CallerTest → List ℕ
tests_text names [] = []
tests_text names (test ∷ tests) = test_text names test ++ more_tests_text names tests

-- the text of its test, or `any:` and those of its tests with `|` between them
unfoldable pub condition_text : Names → Condition → List ℕ
condition_text names (Test test) = test_text names test
condition_text names (AnyOf tests) = codes "any:" ++ tests_text names tests

-- `due`, `required:FIELD`, `changed:FIELD` or `permission:NAME`
unfoldable pub validator_text : Names → Validator → List ℕ
validator_text names Due = codes "due"
validator_text names (Required field) = codes "required:" ++ field_name names.fields field.0
validator_text names (Changed field) = codes "changed:" ++ field_name names.fields field.0
validator_text names (PermissionOf permission) =
    codes "permission:" ++ permission_name permission

-- the text of a value that may name one of these; a set and labels are a JSON array, which is empty where there is no value
abbrev pub value_text : List (List ℕ) → Value → List ℕ
value_text names value.Empty = codes "[]"
value_text names (value.Text text) = text
value_text names (value.Number z) = number_text z
value_text names (value.Choice choice) = name_at names choice.0
value_text names (value.User user) = name_at names user.0
value_text names (value.Date day) = date_text day.0
value_text names (value.Set choices) = array_text (chosen_names names choices)
value_text names (value.Labels labels) = array_text labels
value_text names (value.Sprint sprint) = decimal sprint.0

-- `set:FIELD=TEXT`, `clear:FIELD`, `assign:caller`, `assign:reporter`, `assign:lead` or `resolution:NAME`
unfoldable pub post_text : Names → PostFunction → List ℕ
post_text names (Set field v) =
    codes "set:" ++ (field_name names.fields field.0
    ++ 61 ∷ value_text (choices_of names field.0) v)
post_text names (Clear field) = codes "clear:" ++ field_name names.fields field.0
post_text names AssignCaller = codes "assign:caller"
post_text names AssignReporter = codes "assign:reporter"
post_text names AssignLead = codes "assign:lead"
post_text names (Resolution choice) = codes "resolution:" ++ name_at names.resolutions choice.0
