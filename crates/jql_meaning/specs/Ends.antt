-- How long a truth stays.
use Rattle.field_values.specs.Years.{last_second}
use Rattle.std.specs.Prelude.{◌≡◌, ℕ, ◌<◌, ◌≤◌, Bool, Option, Some, None}

-- a truth stays from a moment until another, which is a critical one
pub record StaysUntil (holds : ℕ → Bool) (IsCritical : ℕ → Type 0) (at until : ℕ) : Type 0 where
  pub later : at < until
  pub in_time : until ≤ last_second
  pub critical : IsCritical until
  pub stays : (t : ℕ) → at ≤ t → t < until → holds t ≡ holds at

-- it stays until then, or up to the last moment of all where there is no end
abbrev pub Stays : (ℕ → Bool) → (ℕ → Type 0) → ℕ → Option ℕ → Type 0
Stays holds IsCritical at (Some until) = StaysUntil holds IsCritical at until
Stays holds IsCritical at None = (t : ℕ) → at ≤ t → t ≤ last_second → holds t ≡ holds at
