-- Line feeds among bytes.
use Rattle.std.proofs.Common.{◌≤◌, ◌==◌, ℕ, zero, suc, List, [], ◌∷◌, take, arith, inl, inr}
use Rattle.std.proofs.lemmas.Bool.{cases_Bool}
use Rattle.setup_places.specs.Places.{feeds}

-- a front has no more of them
pub feeds_take : (at : ℕ) (bytes : List ℕ) → feeds (take at bytes) ≤ feeds bytes
feeds_take zero bytes = omega arith
feeds_take (suc at) [] = omega arith
feeds_take (suc at) (byte ∷ bytes) =
    let rest = feeds_take at bytes in
    elim (cases_Bool (byte == 10)) [
      | inl is ↦ rw is (omega (arith, rest))
      | inr other ↦ rw other rest
    ]
