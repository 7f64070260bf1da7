-- A transition of the setup as it is written, and the first fault of its table.
use Rattle.std.specs.Prelude.{ℕ, List, [], ◌∷◌, Option, None, codes}
use Rattle.toml.specs.Data.{Members, get_member}
use Rattle.setup_drafts.specs.declared.fault.SetupFault.{SetupFault}
use Rattle.field_forms.specs.declared.name_form.NameForm.TheVariants.{Plain, AnyText}
use Rattle.setup_drafts.specs.declared.draft.transition.TransitionDraft.{TransitionDraft}
use Rattle.setup_drafts.specs.Faults.{first_of}
use Rattle.setup_drafts.specs.Cells.{new_name_fault, text_fault, text_in, names_fault, cell_names, rules_fault}

unfoldable pub transition_fault : List (List ℕ) → Members → Option SetupFault
transition_fault earlier e = first_of
    (new_name_fault (codes "name") Plain earlier (get_member (codes "name") e)
    ∷ names_fault (codes "from") AnyText 1 None (get_member (codes "from") e)
    ∷ text_fault (codes "to") (get_member (codes "to") e)
    ∷ rules_fault (codes "conditions") (get_member (codes "conditions") e)
    ∷ rules_fault (codes "validators") (get_member (codes "validators") e)
    ∷ rules_fault (codes "post") (get_member (codes "post") e)
    ∷ [])

unfoldable pub transition_draft : Members → TransitionDraft
transition_draft e = record {
  name = text_in (get_member (codes "name") e);
  from = cell_names (get_member (codes "from") e);
  to = text_in (get_member (codes "to") e);
  conditions = cell_names (get_member (codes "conditions") e);
  validators = cell_names (get_member (codes "validators") e);
  post = cell_names (get_member (codes "post") e);
}
