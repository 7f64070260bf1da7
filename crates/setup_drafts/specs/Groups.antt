-- A group of the setup as it is written, and the first fault of its table.
use Rattle.std.specs.Prelude.{ℕ, List, [], ◌∷◌, Option, None, codes}
use Rattle.toml.specs.Data.{Members, get_member}
use Rattle.setup_drafts.specs.declared.fault.SetupFault.{SetupFault}
use Rattle.field_forms.specs.declared.name_form.NameForm.TheVariants.{Plain, AnyText}
use Rattle.setup_drafts.specs.declared.draft.group.GroupDraft.{GroupDraft}
use Rattle.setup_drafts.specs.Faults.{first_of}
use Rattle.setup_drafts.specs.Cells.{new_name_fault, names_fault, text_in, cell_names}

unfoldable pub group_fault : List (List ℕ) → Members → Option SetupFault
group_fault earlier e = first_of
    (new_name_fault (codes "name") Plain earlier (get_member (codes "name") e)
    ∷ names_fault (codes "members") AnyText 0 None (get_member (codes "members") e)
    ∷ [])

unfoldable pub group_draft : Members → GroupDraft
group_draft e = record {
  name = text_in (get_member (codes "name") e);
  members = cell_names (get_member (codes "members") e);
}
