-- What is told of a setup, with the letters of the place that declares each name, in the setup's order.
use Rattle.std.specs.Prelude.{ℕ, ◌+◌, List, [], ◌∷◌, map, filter, Option, Some, None, if◌then◌else◌}
use Rattle.std.specs.Option.{option_map_or}
use Rattle.field_values.specs.declared.numbers.ChoiceNo.{ChoiceNo}
use Rattle.field_values.specs.declared.numbers.UserNo.{UserNo}
use Rattle.field_values.specs.declared.parts.Group.{Group}
use Rattle.field_values.specs.declared.parts.Project.{Project}
use Rattle.field_values.specs.declared.parts.Transition.{Transition}
use Rattle.field_values.specs.declared.status.Status.{Status}
use Rattle.field_values.specs.declared.rules.Permission.{Permission}
use Rattle.field_values.specs.declared.rules.Permission.TheVariants as permission
use Rattle.field_values.specs.Parts.{Parts}
use Rattle.field_forms.specs.Known.{Names, choices_of, form_of}
use Rattle.field_forms.specs.declared.form.Form.{Form}
use Rattle.field_forms.specs.declared.form.Form.TheVariants as form
use Rattle.fields.specs.Naming.{name_at, field_name}
use Rattle.fields.specs.SetupParts.{may}
use Rattle.rule_texts.specs.RuleTexts.{condition_text, validator_text, post_text}
use Rattle.tracker_calls.specs.declared.described.ToldField.{ToldField}
use Rattle.tracker_calls.specs.declared.described.ToldGroup.{ToldGroup}
use Rattle.tracker_calls.specs.declared.described.ToldKind.{ToldKind}
use Rattle.tracker_calls.specs.declared.described.ToldKind.TheVariants as kind
use Rattle.tracker_calls.specs.declared.described.ToldProject.{ToldProject}
use Rattle.tracker_calls.specs.declared.described.ToldStatus.{ToldStatus}
use Rattle.tracker_calls.specs.declared.described.ToldTransition.{ToldTransition}

-- ---- fields

-- the word for the form of what a field holds
abbrev pub kind_by : Form → ToldKind
kind_by (form.Line most) = kind.Text
kind_by (form.Prose most) = kind.Text
kind_by form.Number = kind.Number
kind_by form.Points = kind.Number
kind_by form.Choice = kind.Choice
kind_by form.User = kind.User
kind_by form.Date = kind.Date
kind_by form.Set = kind.Set
kind_by form.Labels = kind.Labels
kind_by form.Sprint = kind.Sprint

-- what a field of that number holds
abbrev pub kind_of : Names → ℕ → ToldKind
kind_of names n = option_map_or kind_by (form_of names.fields n) kind.Text

-- of a choice and of a set, the names that a value may have
abbrev pub options_by : ToldKind → List (List ℕ) → Option (List (List ℕ))
options_by kind.Choice names = Some names
options_by kind.Set names = Some names
options_by kind.Date names = None
options_by kind.Labels names = None
options_by kind.Number names = None
options_by kind.Sprint names = None
options_by kind.Text names = None
options_by kind.User names = None

-- the field of a number
abbrev pub told_field : Names → ℕ → ToldField
told_field names n = record {
  kind = kind_of names n;
  name = field_name names.fields n;
  number = record { 0 = n };
  options = options_by (kind_of names n) (choices_of names n);
}

-- ---- groups

abbrev pub user_names : List (List ℕ) → List UserNo → List (List ℕ)
user_names users numbers = map (λ u. name_at users u.0) numbers

-- a group of some of these users
abbrev pub told_group : List (List ℕ) → Group → ToldGroup
told_group users g = record { group = g.name; members = user_names users g.members }

-- ---- projects

-- the permissions that there are in a project
abbrev pub project_permissions : List Permission
project_permissions =
    permission.Browse ∷ permission.Create ∷ permission.Edit ∷ permission.Transition
    ∷ permission.Rank ∷ []

-- those of them that the user has in the project at a place
abbrev pub permissions_in : Parts → ℕ → ℕ → List Permission
permissions_in setup user place =
    filter (λ p. may setup user p (Some place)) project_permissions

abbrev pub told_project : Parts → ℕ → ℕ → Project → ToldProject
told_project setup user place p = record {
  key = p.key;
  lead = name_at setup.users p.lead.0;
  may = permissions_in setup user place;
}

-- a project before others, where the user may browse it
abbrev pub with_project : Parts → ℕ → ℕ → Project → List ToldProject → List ToldProject
with_project setup user place p others =
    if may setup user permission.Browse (Some place)
    then told_project setup user place p ∷ others else others

-- those of some projects, of which the first stands at a place, that the user may browse
abbrev pub told_projects : Parts → ℕ → ℕ → List Project → List ToldProject
told_projects setup user place [] = []
told_projects setup user place (p ∷ ps) =
    with_project setup user place p (told_projects setup user (place + 1) ps)

-- ---- statuses

abbrev pub told_status : Status → ToldStatus
told_status s = record { category = s.category; status = s.name }

abbrev pub status_name : Names → ChoiceNo → List ℕ
status_name names choice = name_at names.statuses choice.0

-- ---- transitions

-- a transition, with its rules in their texts
abbrev pub told_transition : Names → Transition → ToldTransition
told_transition names t = record {
  conditions = map (condition_text names) t.conditions;
  from = map (status_name names) t.from;
  post = map (post_text names) t.post;
  to = status_name names t.to;
  transition = t.name;
  validators = map (validator_text names) t.validators;
}
