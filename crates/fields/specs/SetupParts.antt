-- The parts of a setup that is held.
use Rattle.std.specs.Prelude.{ℕ, Bool, List, [], Option, Some, None, option_and_then}
use Rattle.std.specs.List.{list_any, slice_get}
use Rattle.fields.specs.declared.setup.Setup.{Setup}
use Rattle.field_forms.specs.declared.form.Form.{Form}
use Rattle.field_forms.specs.declared.form.Form.TheVariants.{Choice, Set}
use Rattle.field_values.specs.declared.numbers.GroupNo.{GroupNo}
use Rattle.field_values.specs.declared.rules.Permission.{Permission}
use Rattle.field_values.specs.declared.rules.Permission.TheVariants.{Browse, Create, Edit, Transition, Rank, Plan, Administer}
use Rattle.field_values.specs.declared.parts.Project.{Project}
use Rattle.field_forms.specs.Names.{place_named}
use Rattle.fields.specs.Sound.{part_names}
use Rattle.field_forms.specs.Known.{Names, form_of, choices_of}
use Rattle.field_values.specs.GroupMembers.{has_member}
use Rattle.field_values.specs.Parts.{Parts}

abbrev pub parts : Setup → Parts
parts setup = record {
  utc_offset_minutes = setup.utc_offset_minutes;
  week_starts = setup.week_starts;
  rebalancer = setup.rebalancer;
  users = setup.users;
  types = setup.types;
  priorities = setup.priorities;
  resolutions = setup.resolutions;
  versions = setup.versions;
  first_status = setup.first_status;
  plan = setup.plan;
  administer = setup.administer;
  group = setup.group;
  project = setup.project;
  status = setup.status;
  transition = setup.transition;
  field = setup.field;
  offset = setup.offset;
}

-- the names that a value may name
abbrev pub names_in : Parts → Names
names_in setup = part_names setup

abbrev pub names : Setup → Names
names setup = names_in (parts setup)

-- the choice of that name in a field that holds choices
abbrev pub choice_named : Names → ℕ → List ℕ → Option ℕ
choice_named names n name = option_and_then (λ form. choice_by form) (form_of names.fields n) where
  choice_by : Form → Option ℕ
  choice_by Choice = place_named name (choices_of names n)
  choice_by Set = place_named name (choices_of names n)
  choice_by _ = None

-- the groups that have a permission in a project; it may be absent
abbrev pub groups_in : Permission → Option Project → List GroupNo
groups_in permission None = []
groups_in Browse (Some project) = project.browse
groups_in Create (Some project) = project.create
groups_in Edit (Some project) = project.edit
groups_in Transition (Some project) = project.transition
groups_in Rank (Some project) = project.rank
groups_in _ (Some project) = []

-- the groups that have a permission: of the whole tracker, or in the project
abbrev pub groups_with : Parts → Permission → Option ℕ → List GroupNo
groups_with setup Plan place = setup.plan
groups_with setup Administer place = setup.administer
groups_with setup permission place =
    groups_in permission (option_and_then (slice_get setup.project) place)

-- one of the permission's groups has the user
abbrev pub may : Parts → ℕ → Permission → Option ℕ → Bool
may setup user permission place =
    list_any (has_member setup.group user) (groups_with setup permission place)
