use Rattle.std.proofs.Common.{◌≡◌, ◌++◌, map, take}
use Rattle.fields.proofs.naming.put_built_in.Given as goal

abbrev pub invariant-loop-number : goal.invariant-loop-number
invariant-loop-number l = map (λ f. f.0) l.numbers.items ≡ map (λ f. f.0) l.fn.numbers.items ++ map (λ f. f.0) (take l.number-index l.number-items)
