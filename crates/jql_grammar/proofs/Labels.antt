-- One label fits the field of labels where it is a label.
use Rattle.std.proofs.Common.{◌≡◌, ℕ, List, [], ◌∷◌, refl}
use Rattle.field_values.specs.declared.numbers.TheConstants.FieldNo as number
use Rattle.field_values.specs.declared.value.Value.TheVariants.{Labels}
use Rattle.field_forms.specs.Known.{Names, fits, form_of}
use Rattle.field_forms.specs.Values.{is_label}

pub label_fits : (names : Names) (text : List ℕ) → fits names number.LABELS.0 (Labels (text ∷ [])) ≡ is_label text
unfolding fits form_of
label_fits names text = refl
