use Rattle.std.proofs.Common.{◌≡◌, map, take}
use Rattle.fields.proofs.table_names.names_of_fields.Given as goal

abbrev pub invariant-loop-field : goal.invariant-loop-field
invariant-loop-field l = l.names ≡ map (λ f. f.name) (take l.field-index l.fields)
