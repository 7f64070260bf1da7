use Rattle.std.proofs.Common.{◌≡◌, ◌++◌, map, take}
use Rattle.fields.proofs.naming.put_own.Given as goal

abbrev pub invariant-loop-field : goal.invariant-loop-field
invariant-loop-field l = map (λ f. f.0) l.numbers.items ≡ map (λ f. f.0) l.fn.numbers.items ++ map (λ f. f.number.0) (take l.field-index l.fields)
