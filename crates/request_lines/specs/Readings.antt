-- Readings of a clock, one after another.
use Rattle.std.specs.Prelude.{◌≡◌, ℕ, List, [], ◌∷◌, Option, Some, None, min, ⊤}

-- the last second of the year 2099
abbrev pub last_moment : ℕ
last_moment = 4102444799

-- the first reading comes, and stays where it is the last
abbrev pub TakesReading : List ℕ → List ℕ → ℕ → Type 0
TakesReading [] later reading = (later ≡ []) × (reading ≡ 0)
TakesReading (x ∷ []) later reading = (later ≡ x ∷ []) × (reading ≡ min x last_moment)
TakesReading (x ∷ y ∷ more) later reading = (later ≡ y ∷ more) × (reading ≡ min x last_moment)

abbrev pub Reads : Option (List ℕ) → Option (List ℕ) → ℕ → Type 0
Reads None later reading = ⊤
Reads (Some ahead) None reading = ⊥
Reads (Some ahead) (Some later) reading = TakesReading ahead later reading
