-- A project of the setup as it is written, and the first fault of its table.
use Rattle.std.specs.Prelude.{ℕ, List, [], ◌∷◌, Option, None, codes}
use Rattle.toml.specs.Data.{Members, get_member}
use Rattle.setup_drafts.specs.declared.fault.SetupFault.{SetupFault}
use Rattle.field_forms.specs.declared.name_form.NameForm.TheVariants.{ProjectKey, AnyText}
use Rattle.setup_drafts.specs.declared.draft.project.ProjectDraft.{ProjectDraft}
use Rattle.setup_drafts.specs.Faults.{first_of}
use Rattle.setup_drafts.specs.Cells.{new_name_fault, text_fault, text_in, names_fault, cell_names}

-- the groups of one permission in the project
abbrev pub groups_fault : List ℕ → Members → Option SetupFault
groups_fault permission e = names_fault permission AnyText 0 None (get_member permission e)

unfoldable pub project_fault : List (List ℕ) → Members → Option SetupFault
project_fault earlier e = first_of
    (new_name_fault (codes "key") ProjectKey earlier (get_member (codes "key") e)
    ∷ text_fault (codes "lead") (get_member (codes "lead") e)
    ∷ groups_fault (codes "browse") e
    ∷ groups_fault (codes "create") e
    ∷ groups_fault (codes "edit") e
    ∷ groups_fault (codes "transition") e
    ∷ groups_fault (codes "rank") e
    ∷ [])

unfoldable pub project_draft : Members → ProjectDraft
project_draft e = record {
  key = text_in (get_member (codes "key") e);
  lead = text_in (get_member (codes "lead") e);
  browse = cell_names (get_member (codes "browse") e);
  create = cell_names (get_member (codes "create") e);
  edit = cell_names (get_member (codes "edit") e);
  transition = cell_names (get_member (codes "transition") e);
  rank = cell_names (get_member (codes "rank") e);
}
