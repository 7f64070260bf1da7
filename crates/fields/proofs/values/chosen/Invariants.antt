use Rattle.std.proofs.Common.{◌≡◌, ◌++◌, drop}
use Rattle.field_forms.specs.Values.{chosen}
use Rattle.fields.proofs.values.chosen.Given as goal

abbrev pub invariant-loop-place : goal.invariant-loop-place
invariant-loop-place l = chosen 0 l.names l.texts ≡ l.nos ++ chosen l.place (drop l.place l.names) l.texts
