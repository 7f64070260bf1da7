-- Sets and labels are read back from the lists of texts that tell them.
use Rattle.std.specs.Prelude.{◌≡◌, ℕ, List, [], length, Some, true}
use Rattle.field_values.specs.declared.numbers.ChoiceNo.{ChoiceNo}
use Rattle.field_values.specs.declared.value.Value.{Value}
use Rattle.field_values.specs.declared.value.Value.TheVariants.{Set, Labels}
use Rattle.field_forms.specs.Names.{AreDistinct}
use Rattle.field_forms.specs.Values.{is_set, is_label_list, chosen, with_labels}
use Rattle.field_forms.specs.Known.{Names, choices_of, fits, listed_value_of}
use Rattle.field_forms.specs.ValueTexts.{chosen_names}

-- of names that are distinct, those of a set's choices choose that set
abbrev pub SetsAreReadBack : Type 0
SetsAreReadBack =
    (names : List (List ℕ)) (choices : List ChoiceNo) →
    AreDistinct names → is_set (length names) choices ≡ true
    → chosen 0 names (chosen_names names choices) ≡ choices

-- labels in the order of their bytes, each once, stay as they are
abbrev pub LabelsAreReadBack : Type 0
LabelsAreReadBack =
    (labels : List (List ℕ)) → is_label_list labels ≡ true → with_labels [] labels ≡ labels

-- the texts that tell a set, whose names are these, or labels
abbrev pub IsListOf : List (List ℕ) → Value → List (List ℕ) → Type 0
IsListOf names (Set choices) texts = texts ≡ chosen_names names choices
IsListOf names (Labels labels) texts = texts ≡ labels
IsListOf names _ texts = ⊥

-- a set or labels that fit a field are what the list of their texts stands for there
abbrev pub ListedValuesAreReadBack : Type 0
ListedValuesAreReadBack =
    (names : Names) (n : ℕ) (value : Value) (texts : List (List ℕ)) →
    AreDistinct (choices_of names n) → fits names n value ≡ true
    → IsListOf (choices_of names n) value texts →
    listed_value_of names n texts ≡ Some value
