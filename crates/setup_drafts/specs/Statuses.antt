-- A status of the setup, and the first fault of its table.
use Rattle.std.specs.Prelude.{ℕ, List, [], ◌∷◌, Option, codes}
use Rattle.toml.specs.Data.{Members, get_member}
use Rattle.setup_drafts.specs.declared.fault.SetupFault.{SetupFault}
use Rattle.field_forms.specs.declared.name_form.NameForm.TheVariants.{Plain}
use Rattle.field_values.specs.declared.words.Category.TheVariants.{ToDo}
use Rattle.field_values.specs.declared.status.Status.{Status}
use Rattle.setup_drafts.specs.Faults.{first_of}
use Rattle.setup_drafts.specs.Cells.{new_name_fault, text_in, word_fault, word_in}
use Rattle.field_values.specs.Words.{category_of}

unfoldable pub status_fault : List (List ℕ) → Members → Option SetupFault
status_fault earlier e = first_of
    (new_name_fault (codes "name") Plain earlier (get_member (codes "name") e)
    ∷ word_fault category_of (codes "category") (get_member (codes "category") e)
    ∷ [])

unfoldable pub status_of : Members → Status
status_of e = record {
  name = text_in (get_member (codes "name") e);
  category = word_in category_of ToDo (get_member (codes "category") e);
}
