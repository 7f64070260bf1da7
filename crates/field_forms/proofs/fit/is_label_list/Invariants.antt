use Rattle.std.proofs.Common.{◌≡◌, drop}
use Rattle.field_forms.specs.Values.{is_label_list}
use Rattle.field_forms.proofs.fit.is_label_list.Given as goal

abbrev pub invariant-loop-place : goal.invariant-loop-place
invariant-loop-place l = is_label_list l.labels ≡ is_label_list (drop l.place l.labels)
