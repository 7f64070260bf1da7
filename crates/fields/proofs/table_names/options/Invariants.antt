use Rattle.std.proofs.Common.{◌≡◌, map, take}
use Rattle.fields.proofs.table_names.options.Given as goal

abbrev pub invariant-loop-field : goal.invariant-loop-field
invariant-loop-field l = l.options ≡ map (λ f. f.options) (take l.field-index l.fields)
