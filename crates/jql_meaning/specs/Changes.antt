-- Comparisons that come to another truth.
use Rattle.std.specs.Prelude.{◌≢◌, ◌⊎◌, ℕ}
use Rattle.change_history.specs.History.{History}
use Rattle.jql_bound.specs.Condition.{Condition, now, past, all_of, any_of, Conditions, no_conditions, condition}
use Rattle.jql_meaning.specs.Surroundings.{Surroundings}
use Rattle.jql_meaning.specs.Present.{holds_now}
use Rattle.jql_meaning.specs.Past.{holds_past}

-- one of the comparisons in a condition has another truth at one moment than at another
unfoldable mutual
  pub OneDiffers : Surroundings → History → ℕ → ℕ → Condition → Type 0
  OneDiffers s h u t (now leaf) = holds_now s leaf h u ≢ holds_now s leaf h t
  OneDiffers s h u t (past leaf) = holds_past s leaf h u ≢ holds_past s leaf h t
  OneDiffers s h u t (all_of conditions) = OneOfThemDiffers s h u t conditions
  OneDiffers s h u t (any_of conditions) = OneOfThemDiffers s h u t conditions

  pub OneOfThemDiffers : Surroundings → History → ℕ → ℕ → Conditions → Type 0
  OneOfThemDiffers s h u t no_conditions = ⊥
  OneOfThemDiffers s h u t (condition c cs) = OneDiffers s h u t c ⊎ OneOfThemDiffers s h u t cs
