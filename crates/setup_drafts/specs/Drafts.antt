-- The setup as its text writes it, and the first fault of what is written, key by key in the order of the setup.
use Rattle.std.specs.Prelude.{◌≡◌, true, ◌≤◌, List, [], ◌∷◌, length, map, Option, Some, pos, neg_ℤ, codes}
use Rattle.std.specs.List.{list_all}
use Rattle.std.specs.Option.{option_or}
use Rattle.toml.specs.Data.{Members, get_member}
use Rattle.setup_drafts.specs.declared.fault.SetupFault.{SetupFault}
use Rattle.field_forms.specs.declared.name_form.NameForm.TheVariants.{User, Plain, Resolution, AnyText}
use Rattle.field_values.specs.declared.words.Weekday.TheVariants.{Monday}
use Rattle.setup_drafts.specs.declared.draft.head.Head.{Head}
use Rattle.setup_drafts.specs.declared.draft.head.Rights.{Rights}
use Rattle.setup_drafts.specs.declared.draft.lists.Lists.{Lists}
use Rattle.setup_drafts.specs.declared.draft.tables.Tables.{Tables}
use Rattle.setup_drafts.specs.declared.draft.Draft.{Draft}
use Rattle.setup_drafts.specs.declared.draft.group.GroupDraft.{GroupDraft}
use Rattle.setup_drafts.specs.declared.draft.project.ProjectDraft.{ProjectDraft}
use Rattle.setup_drafts.specs.declared.draft.transition.TransitionDraft.{TransitionDraft}
use Rattle.field_values.specs.declared.status.Status.{Status}
use Rattle.field_values.specs.declared.field.Field.{Field}
use Rattle.setup_drafts.specs.Faults.{first_of}
use Rattle.setup_drafts.specs.Cells as cells
use Rattle.setup_drafts.specs.Cells.{whole_fault, whole_in, word_fault, word_in, text_fault, text_in, names_fault, optional_names_fault, cell_names, tables_in}
use Rattle.setup_drafts.specs.Entries.{entries_fault, with_name}
use Rattle.field_values.specs.Words.{weekday_of, day_number}
use Rattle.setup_drafts.specs.Groups.{group_fault, group_draft}
use Rattle.setup_drafts.specs.Projects.{project_fault, project_draft}
use Rattle.setup_drafts.specs.Statuses.{status_fault, status_of}
use Rattle.setup_drafts.specs.Transitions.{transition_fault, transition_draft}
use Rattle.setup_drafts.specs.Offsets.{steps_of, offsets_fault, offsets_in}
use Rattle.setup_drafts.specs.Fields.{field_fault, field_of, with_field}
use Rattle.field_forms.specs.Known.{has_few_options}

unfoldable pub head_fault : Members → Option SetupFault
head_fault ms = first_of
    (whole_fault (codes "utc_offset_minutes") (neg_ℤ (pos 840)) (pos 840)
    (get_member (codes "utc_offset_minutes") ms)
    ∷ word_fault weekday_of (codes "week_starts") (get_member (codes "week_starts") ms)
    ∷ text_fault (codes "rebalancer") (get_member (codes "rebalancer") ms)
    ∷ [])

unfoldable pub head_of : Members → Head
head_of ms = record {
  utc_offset_minutes = whole_in (get_member (codes "utc_offset_minutes") ms);
  week_starts = word_in weekday_of Monday (get_member (codes "week_starts") ms);
  rebalancer = text_in (get_member (codes "rebalancer") ms);
}

unfoldable pub lists_fault : Members → Option SetupFault
lists_fault ms = first_of
    (names_fault (codes "users") User 1 (Some 200) (get_member (codes "users") ms)
    ∷ names_fault (codes "types") Plain 1 (Some 30) (get_member (codes "types") ms)
    ∷ names_fault (codes "priorities") Plain 1 (Some 20) (get_member (codes "priorities") ms)
    ∷ names_fault (codes "resolutions") Resolution 1 (Some 50) (get_member (codes "resolutions") ms)
    ∷ optional_names_fault (codes "versions") Plain 0 (Some 500) (get_member (codes "versions") ms)
    ∷ [])

unfoldable pub lists_of : Members → Lists
lists_of ms = record {
  users = cell_names (get_member (codes "users") ms);
  types = cell_names (get_member (codes "types") ms);
  priorities = cell_names (get_member (codes "priorities") ms);
  resolutions = cell_names (get_member (codes "resolutions") ms);
  versions = cell_names (get_member (codes "versions") ms);
}

-- no list is longer than the setup allows
pub record AreFewNames (lists : Lists) : Type 0 where
  pub users : length lists.users ≤ 200
  pub types : length lists.types ≤ 30
  pub priorities : length lists.priorities ≤ 20
  pub resolutions : length lists.resolutions ≤ 50
  pub versions : length lists.versions ≤ 500

unfoldable pub rights_fault : Members → Option SetupFault
rights_fault ms = first_of
    (text_fault (codes "first_status") (get_member (codes "first_status") ms)
    ∷ names_fault (codes "plan") AnyText 0 (Some 100) (get_member (codes "plan") ms)
    ∷ names_fault (codes "administer") AnyText 0 (Some 100) (get_member (codes "administer") ms)
    ∷ [])

unfoldable pub rights_of : Members → Rights
rights_of ms = record {
  first_status = text_in (get_member (codes "first_status") ms);
  plan = cell_names (get_member (codes "plan") ms);
  administer = cell_names (get_member (codes "administer") ms);
}

unfoldable pub groups_fault : Members → Option SetupFault
groups_fault ms =
    option_or (cells.tables_fault (codes "group") 0 100 (get_member (codes "group") ms))
    (entries_fault group_fault (with_name (λ e. (group_draft e).name)) []
    (tables_in (get_member (codes "group") ms)))

unfoldable pub groups_of : Members → List GroupDraft
groups_of ms = map group_draft (tables_in (get_member (codes "group") ms))

unfoldable pub projects_fault : Members → Option SetupFault
projects_fault ms =
    option_or (cells.tables_fault (codes "project") 1 50 (get_member (codes "project") ms))
    (entries_fault project_fault (with_name (λ e. (project_draft e).key)) []
    (tables_in (get_member (codes "project") ms)))

unfoldable pub projects_of : Members → List ProjectDraft
projects_of ms = map project_draft (tables_in (get_member (codes "project") ms))

unfoldable pub statuses_fault : Members → Option SetupFault
statuses_fault ms =
    option_or (cells.tables_fault (codes "status") 1 50 (get_member (codes "status") ms))
    (entries_fault status_fault (with_name (λ e. (status_of e).name)) []
    (tables_in (get_member (codes "status") ms)))

unfoldable pub statuses_of : Members → List Status
statuses_of ms = map status_of (tables_in (get_member (codes "status") ms))

unfoldable pub transitions_fault : Members → Option SetupFault
transitions_fault ms =
    option_or (cells.tables_fault (codes "transition") 0 200 (get_member (codes "transition") ms))
    (entries_fault transition_fault (with_name (λ e. (transition_draft e).name)) []
    (tables_in (get_member (codes "transition") ms)))

unfoldable pub transitions_of : Members → List TransitionDraft
transitions_of ms = map transition_draft (tables_in (get_member (codes "transition") ms))

unfoldable pub fields_fault : Members → Option SetupFault
fields_fault ms =
    option_or (cells.tables_fault (codes "field") 0 30 (get_member (codes "field") ms))
    (entries_fault field_fault (with_field) [] (tables_in (get_member (codes "field") ms)))

unfoldable pub fields_of : Members → List Field
fields_of ms = map field_of (tables_in (get_member (codes "field") ms))

unfoldable pub tables_fault : Members → Option SetupFault
tables_fault ms = first_of
    (groups_fault ms ∷ projects_fault ms ∷ statuses_fault ms ∷ transitions_fault ms
    ∷ fields_fault ms ∷ [])

unfoldable pub tables_of : Members → Tables
tables_of ms = record {
  groups = groups_of ms;
  projects = projects_of ms;
  statuses = statuses_of ms;
  transitions = transitions_of ms;
  fields = fields_of ms;
}

-- no list of tables is longer than the setup allows
pub record AreFewTables (tables : Tables) : Type 0 where
  pub groups : length tables.groups ≤ 100
  pub projects : length tables.projects ≤ 50
  pub statuses : length tables.statuses ≤ 50
  pub transitions : length tables.transitions ≤ 200
  pub fields : length tables.fields ≤ 30
  pub options : list_all has_few_options tables.fields ≡ true

-- the first key, in the order of the setup, that is missing, has a bad value, too many entries or a double
unfoldable pub draft_fault : Members → Option SetupFault
draft_fault ms = first_of
    (head_fault ms
    ∷ lists_fault ms
    ∷ rights_fault ms
    ∷ tables_fault ms
    ∷ offsets_fault (head_of ms).utc_offset_minutes ms
    ∷ [])

unfoldable pub draft_of : Members → Draft
draft_of ms = record {
  head = head_of ms;
  lists = lists_of ms;
  rights = rights_of ms;
  tables = tables_of ms;
  steps = steps_of (head_of ms).utc_offset_minutes (day_number (head_of ms).week_starts)
      (offsets_in ms);
}

pub record IsSmall (draft : Draft) : Type 0 where
  pub names : AreFewNames draft.lists
  pub tables : AreFewTables draft.tables
