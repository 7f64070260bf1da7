-- Numbers that are too large.
use Rattle.std.proofs.Common.{◌≡◌, ℕ, ◌<◌, List, None, arith}
use Rattle.std.proofs.lemmas.Bool.Decides.{nat_tests}
use Rattle.field_values.specs.Digits.{read_on}
use Rattle.field_values.proofs.Numerals.{read_grows}
use Rattle.jql_grammar.specs.Forms.{small}

-- a front that is too large makes the whole too large
pub too_large : (whole n : ℕ) (ds : List ℕ) → whole ≡ read_on n ds → 4_294_967_295 < n → small whole ≡ None
too_large whole n ds e large = let h = read_grows n ds in grind (arith, nat_tests)
