use Rattle.std.proofs.Common.{◌≡◌, [], drop}
use Rattle.field_forms.specs.Values.{with_labels}
use Rattle.field_forms.proofs.form.labels_of.Given as goal

abbrev pub invariant-loop-text : goal.invariant-loop-text
invariant-loop-text l = with_labels [] l.texts ≡ with_labels l.labels (drop l.text-index l.texts)
