-- The next moment at which something happens.
use Rattle.field_values.specs.Years.{last_second}
use Rattle.std.specs.Prelude.{◌⊎◌, ℕ, ◌<◌, ◌≤◌, List, [], ◌∷◌, Option, Some, None}

-- it happens at this later moment, and at none in between
pub record HappensNext (Happens : ℕ → Type 0) (at next : ℕ) : Type 0 where
  pub later : at < next
  pub in_time : next ≤ last_second
  pub happens : Happens next
  pub not_before : (t : ℕ) → at < t → t < next → Happens t → ⊥

-- the next moment at which it happens, or none where it happens no more up to the last moment
abbrev pub IsNext : (ℕ → Type 0) → ℕ → Option ℕ → Type 0
IsNext Happens at (Some next) = HappensNext Happens at next
IsNext Happens at None = (t : ℕ) → at < t → t ≤ last_second → Happens t → ⊥

-- it happens to one of these
abbrev pub ToOne : {X : Type 0} → (X → ℕ → Type 0) → List X → ℕ → Type 0
ToOne Happens [] t = ⊥
ToOne Happens (x ∷ xs) t = Happens x t ⊎ ToOne Happens xs t
