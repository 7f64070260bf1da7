-- Verdicts that are right, as `evaluate` gives them and as they are kept.
use Rattle.std.specs.Prelude.{◌≡◌, ℕ, ◌<◌, ◌≤◌, Bool, Option, Some, None}
use Rattle.field_values.specs.Years.{last_second}
use Rattle.change_history.specs.History.{History}
use Rattle.jql_bound.specs.Condition.{Condition}
use Rattle.jql_meaning.specs.Surroundings.{Surroundings}
use Rattle.jql_meaning.specs.Truth.{query_holds}
use Rattle.jql_meaning.specs.Critical.{IsCriticalForQuery}
use Rattle.jql_meaning.specs.Ends.{Stays}

-- It tells the query's truth for the issue at the moment. Its end is later than that, and critical; the truth stays until then, or up
-- to the last moment of all where it has no end.
pub record IsRight (s : Surroundings) (h : History) (query : Option Condition) (at : ℕ)
    (holds : Bool) (end : Option ℕ) : Type 0 where
  pub truth : holds ≡ query_holds s h at query
  pub stays : Stays (λ t. query_holds s h t query) (λ t. IsCriticalForQuery s h t query) at end

-- a moment before the end; where there is no end, any up to the last
abbrev pub IsBeforeEnd : ℕ → Option ℕ → Type 0
IsBeforeEnd t (Some end) = t < end
IsBeforeEnd t None = t ≤ last_second
