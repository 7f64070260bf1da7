-- Where things stand whose numbers rise.
use Rattle.std.specs.Prelude.{ℕ, ◌≡◌, ◌<◌, ◌≤◌, List, length, map, slice_get, Some}

-- the one of that number stands at this place
abbrev pub StandsAt : {X : Type 0} → (X → ℕ) → List X → ℕ → ℕ → Type 0
StandsAt number xs n place = slice_get (map number xs) place ≡ Some n

-- one of that number would go to this place: those before it have smaller numbers, and the others greater ones
pub record IsGapFor {X : Type 0} (number : X → ℕ) (xs : List X) (n place : ℕ) : Type 0 where
  pub within : place ≤ length xs
  pub smaller : (j m : ℕ) → j < place → slice_get (map number xs) j ≡ Some m → m < n
  pub greater : (j m : ℕ) → place ≤ j → slice_get (map number xs) j ≡ Some m → n < m
