-- A field of the setup's own, and the first fault of its table.
use Rattle.std.specs.Prelude.{ℕ, List, [], ◌∷◌, ◌++◌, ◌==◌, map, Option, Some, is_some, pos, unsigned_abs, decimal, codes}
use Rattle.std.specs.List.{list_any}
use Rattle.std.specs.Option.{option_or}
use Rattle.toml.specs.Data.{Data, Members, get_member}
use Rattle.setup_drafts.specs.declared.fault.SetupFault.{SetupFault}
use Rattle.setup_drafts.specs.declared.fault.SetupFault.TheVariants.{BadValue, Duplicate}
use Rattle.field_forms.specs.declared.name_form.NameForm.TheVariants.{Plain, OwnField}
use Rattle.field_values.specs.declared.words.FieldKind.{FieldKind}
use Rattle.field_values.specs.declared.words.FieldKind.TheVariants.{Text, Choice}
use Rattle.field_values.specs.declared.field.Field.{Field}
use Rattle.setup_drafts.specs.Faults.{first_of, fault_if}
use Rattle.setup_drafts.specs.Cells.{whole_fault, whole_in, new_name_fault, text_in, names_fault, cell_names, word_fault, word_in}
use Rattle.field_values.specs.Words.{field_kind_of}

-- the number that is written at a key
abbrev pub number_in : Option Data → ℕ
number_in value = unsigned_abs (whole_in value)

-- a number from 10000 to 19999 that no earlier field has
abbrev pub number_fault : List ℕ → List Field → Option Data → Option SetupFault
number_fault key earlier value =
    option_or (whole_fault key (pos 10000) (pos 19999) value)
    (fault_if (list_any (λ f. f.number.0 == number_in value) earlier)
    (Duplicate (decimal (number_in value))))

-- a choice has 1 to 200 options, and no other kind has any
abbrev pub options_fault : List ℕ → FieldKind → Option Data → Option SetupFault
options_fault key Choice value = names_fault key Plain 1 (Some 200) value
options_fault key _ value = fault_if (is_some value) (BadValue key)

abbrev pub options_in : FieldKind → Option Data → List (List ℕ)
options_in Choice value = cell_names value
options_in _ value = []

unfoldable pub field_fault : List Field → Members → Option SetupFault
field_fault earlier e = first_of
    (number_fault (codes "number") earlier (get_member (codes "number") e)
    ∷ new_name_fault (codes "name") OwnField (map (λ f. f.name) earlier)
    (get_member (codes "name") e)
    ∷ word_fault field_kind_of (codes "kind") (get_member (codes "kind") e)
    ∷ options_fault (codes "options") (word_in field_kind_of Text (get_member (codes "kind") e))
    (get_member (codes "options") e)
    ∷ [])

unfoldable pub field_of : Members → Field
field_of e = record {
  number = record { 0 = number_in (get_member (codes "number") e) };
  name = text_in (get_member (codes "name") e);
  kind = word_in field_kind_of Text (get_member (codes "kind") e);
  options = options_in (word_in field_kind_of Text (get_member (codes "kind") e))
      (get_member (codes "options") e);
}

-- the fields so far, and one more
abbrev pub with_field : List Field → Members → List Field
with_field earlier e = earlier ++ field_of e ∷ []
