-- Names that must be known, resolved to what they name.
use Rattle.std.specs.Prelude.{ℕ, ◌+◌, not, List, [], ◌∷◌, map, Option, None, is_some, unwrap_or, if◌then◌else◌}
use Rattle.std.specs.List.{filter_map}
use Rattle.std.specs.Option.{option_or}
use Rattle.setup_drafts.specs.declared.fault.SetupFault.{SetupFault}
use Rattle.setup_drafts.specs.declared.fault.SetupFault.TheVariants.{Unknown, BadValue}
use Rattle.field_values.specs.declared.numbers.UserNo.{UserNo}
use Rattle.field_values.specs.declared.numbers.GroupNo.{GroupNo}
use Rattle.field_values.specs.declared.numbers.ChoiceNo.{ChoiceNo}
use Rattle.field_values.specs.declared.parts.Group.{Group}
use Rattle.field_values.specs.declared.parts.Project.{Project}
use Rattle.field_values.specs.declared.parts.Transition.{Transition}
use Rattle.setup_drafts.specs.declared.draft.group.GroupDraft.{GroupDraft}
use Rattle.setup_drafts.specs.declared.draft.project.ProjectDraft.{ProjectDraft}
use Rattle.setup_drafts.specs.declared.draft.transition.TransitionDraft.{TransitionDraft}
use Rattle.setup_drafts.specs.declared.draft.Draft.{Draft}
use Rattle.setup_reading.specs.declared.resolved.Resolved.{Resolved}
use Rattle.setup_reading.specs.declared.resolved.ResolvedRights.{ResolvedRights}
use Rattle.setup_reading.specs.declared.resolved.ResolvedTables.{ResolvedTables}
use Rattle.setup_drafts.specs.Faults.{fault_if, first_of}
use Rattle.field_forms.specs.Names.{place_named, is_among}
use Rattle.field_forms.specs.Known as known
use Rattle.field_forms.specs.Rules.{condition_of, validator_of, post_of}

-- the first fault over a list
abbrev pub first_over : {X : Type 0} → (X → Option SetupFault) → List X → Option SetupFault
first_over fault [] = None
first_over fault (x ∷ xs) = option_or (fault x) (first_over fault xs)

-- a name that isn't among those that are known
abbrev pub unknown : List (List ℕ) → List ℕ → Option SetupFault
unknown names name = fault_if (not (is_some (place_named name names))) (Unknown name)

-- the place of a name that is known
abbrev pub place_in : List (List ℕ) → List ℕ → ℕ
place_in names name = unwrap_or (place_named name names) 0

abbrev pub user_in : List (List ℕ) → List ℕ → UserNo
user_in names name = record { 0 = place_in names name }

abbrev pub choice_in : List (List ℕ) → List ℕ → ChoiceNo
choice_in names name = record { 0 = place_in names name }

abbrev pub group_in : List (List ℕ) → List ℕ → GroupNo
group_in names name = record { 0 = place_in names name + 1 }

-- those of the users, from a place on, that are named, in the setup's order of users
abbrev pub members_in : ℕ → List (List ℕ) → List (List ℕ) → List UserNo
members_in place [] texts = []
members_in place (user ∷ users) texts =
    if is_among texts user then record { 0 = place } ∷ members_in (place + 1) users texts
    else members_in (place + 1) users texts

unfoldable pub group_unknown : List (List ℕ) → GroupDraft → Option SetupFault
group_unknown users g = first_over (unknown users) g.members

unfoldable pub group_resolved : List (List ℕ) → GroupDraft → Group
group_resolved users g = record { name = g.name; members = members_in 0 users g.members }

unfoldable pub project_unknown : List (List ℕ) → List (List ℕ) → ProjectDraft → Option SetupFault
project_unknown users groups p = first_of
    (unknown users p.lead
    ∷ first_over (unknown groups) p.browse
    ∷ first_over (unknown groups) p.create
    ∷ first_over (unknown groups) p.edit
    ∷ first_over (unknown groups) p.transition
    ∷ first_over (unknown groups) p.rank
    ∷ [])

unfoldable pub project_resolved : List (List ℕ) → List (List ℕ) → ProjectDraft → Project
project_resolved users groups p = record {
  key = p.key;
  lead = user_in users p.lead;
  browse = map (group_in groups) p.browse;
  create = map (group_in groups) p.create;
  edit = map (group_in groups) p.edit;
  transition = map (group_in groups) p.transition;
  rank = map (group_in groups) p.rank;
}

-- a text that states no such rule
abbrev pub no_rule : {R : Type 0} → (List ℕ → Option R) → List ℕ → Option SetupFault
no_rule meaning text = fault_if (not (is_some (meaning text))) (BadValue text)

unfoldable pub transition_unknown : known.Names → TransitionDraft → Option SetupFault
transition_unknown names t = first_of
    (first_over (unknown names.statuses) t.from
    ∷ unknown names.statuses t.to
    ∷ first_over (no_rule (condition_of names)) t.conditions
    ∷ first_over (no_rule (validator_of names)) t.validators
    ∷ first_over (no_rule (post_of names)) t.post
    ∷ [])

unfoldable pub transition_resolved : known.Names → TransitionDraft → Transition
transition_resolved names t = record {
  name = t.name;
  from = map (choice_in names.statuses) t.from;
  to = choice_in names.statuses t.to;
  conditions = filter_map (condition_of names) t.conditions;
  validators = filter_map (validator_of names) t.validators;
  post = filter_map (post_of names) t.post;
}

-- the names that the texts of a draft may name
abbrev pub draft_names : Draft → known.Names
draft_names draft = record {
  users = draft.lists.users;
  types = draft.lists.types;
  statuses = map (λ s. s.name) draft.tables.statuses;
  priorities = draft.lists.priorities;
  resolutions = draft.lists.resolutions;
  versions = draft.lists.versions;
  groups = map (λ g. g.name) draft.tables.groups;
  fields = draft.tables.fields;
}

-- of the keys outside tables, in the order of the setup
unfoldable pub rights_unknown : known.Names → Draft → Option SetupFault
rights_unknown names draft = first_of
    (unknown names.users draft.head.rebalancer
    ∷ unknown names.statuses draft.rights.first_status
    ∷ first_over (unknown names.groups) draft.rights.plan
    ∷ first_over (unknown names.groups) draft.rights.administer
    ∷ [])

unfoldable pub rights_resolved : known.Names → Draft → ResolvedRights
rights_resolved names draft = record {
  rebalancer = user_in names.users draft.head.rebalancer;
  first_status = choice_in names.statuses draft.rights.first_status;
  plan = map (group_in names.groups) draft.rights.plan;
  administer = map (group_in names.groups) draft.rights.administer;
}

-- of the tables, in the order of the setup
unfoldable pub tables_unknown : known.Names → Draft → Option SetupFault
tables_unknown names draft = first_of
    (first_over (group_unknown names.users) draft.tables.groups
    ∷ first_over (project_unknown names.users names.groups) draft.tables.projects
    ∷ first_over (transition_unknown names) draft.tables.transitions
    ∷ [])

unfoldable pub tables_resolved : known.Names → Draft → ResolvedTables
tables_resolved names draft = record {
  groups = map (group_resolved names.users) draft.tables.groups;
  projects = map (project_resolved names.users names.groups) draft.tables.projects;
  transitions = map (transition_resolved names) draft.tables.transitions;
}

-- the first name that isn't known, or text that is no rule, in the order of the setup
unfoldable pub resolve_fault_by : known.Names → Draft → Option SetupFault
resolve_fault_by names draft = option_or (rights_unknown names draft) (tables_unknown names draft)

unfoldable pub resolved_by : known.Names → Draft → Resolved
resolved_by names draft =
    record { rights = rights_resolved names draft; tables = tables_resolved names draft }

-- the same with the draft's own names
unfoldable pub resolve_fault : Draft → Option SetupFault
resolve_fault draft = resolve_fault_by (draft_names draft) draft

unfoldable pub resolved : Draft → Resolved
resolved draft = resolved_by (draft_names draft) draft
