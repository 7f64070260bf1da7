use Rattle.std.proofs.Common.{◌≡◌, drop}
use Rattle.field_forms.specs.Values.{is_set}
use Rattle.field_forms.proofs.fit.is_set.Given as goal

abbrev pub invariant-loop-place : goal.invariant-loop-place
invariant-loop-place l = is_set l.count l.choices ≡ is_set l.count (drop l.place l.choices)
