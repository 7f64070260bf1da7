-- What is read of a list of which one place is set.
use Rattle.std.proofs.Common.{◌≡◌, ◌≢◌, ◌==◌, ℕ, zero, suc, List, [], ◌∷◌, true, false, Some, refl, sym, ap, ◌∙◌, eq-eqb}
use Rattle.std.specs.Prelude.{slice_get, slice_set}

-- what is set is read, and nothing else changes
pub set_read : {X : Type 0} (xs : List X) (i : ℕ) (x y : X) → slice_get (slice_set xs i x) i ≡ Some y → y ≡ x
set_read [] i x y read = cc
set_read (z ∷ xs) zero x y read = cc
set_read (z ∷ xs) (suc i) x y read = set_read xs i x y read

pub set_there : {X : Type 0} (xs : List X) (i : ℕ) (x y : X) → slice_get xs i ≡ Some y → slice_get (slice_set xs i x) i ≡ Some x
set_there [] i x y there = cc
set_there (z ∷ xs) zero x y there = refl
set_there (z ∷ xs) (suc i) x y there = set_there xs i x y there

pub set_other : {X : Type 0} (xs : List X) (i : ℕ) (x : X) (j : ℕ) → i ≢ j → slice_get (slice_set xs i x) j ≡ slice_get xs j
set_other [] i x j other = refl
set_other (z ∷ xs) zero x zero other = absurd (other refl)
set_other (z ∷ xs) zero x (suc j) other = refl
set_other (z ∷ xs) (suc i) x zero other = refl
set_other (z ∷ xs) (suc i) x (suc j) other = set_other xs i x j (λ e. other (ap suc e))

pub apart : (i j : ℕ) → (i == j) ≡ false → i ≢ j
apart i j other e = let both : true ≡ false = sym (eq-eqb i j e) ∙ other in cc
