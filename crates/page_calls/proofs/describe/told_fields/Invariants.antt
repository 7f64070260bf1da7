use Rattle.std.proofs.Common.{◌≡◌, map, take}
use Rattle.fields.specs.SetupParts.{names}
use Rattle.told_setups.specs.Told.{told_field}
use Rattle.page_calls.proofs.describe.told_fields.Given as goal

abbrev pub invariant-loop-number : goal.invariant-loop-number
invariant-loop-number l = l.told ≡ map (told_field (names l.setup)) (map (λ f. f.0) (take l.number-index l.numbers))
