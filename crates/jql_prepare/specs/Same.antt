-- Conditions that hold of the same issues at a moment.
use Rattle.std.specs.Prelude.{◌≡◌, ℕ, List, length, slice_get, Some}
use Rattle.change_history.specs.History.{History}
use Rattle.jql_bound.specs.Condition.{view}
use Rattle.jql_bound.specs.declared.cond.Cond.{Cond}
use Rattle.jql_meaning.specs.Surroundings.{Surroundings}
use Rattle.jql_meaning.specs.Truth.{holds}

-- the new condition holds of the issues of which the old one holds
abbrev pub IsSame : Surroundings → ℕ → Cond → Cond → Type 0
IsSame s at old new = (h : History) → holds s h at (view new) ≡ holds s h at (view old)

-- each of the new ones holds of those of which the old one at its place holds
pub record AreSame (s : Surroundings) (at : ℕ) (old new : List Cond) : Type 0 where
  pub many : length new ≡ length old
  pub each : (place : ℕ) (c d : Cond) → slice_get old place ≡ Some c → slice_get new place ≡ Some d
      → IsSame s at c d
