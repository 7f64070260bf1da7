-- When a query holds of an issue.
use Rattle.std.specs.Prelude.{ℕ, Bool, true, false, ◌&&◌, ◌||◌, Option, Some, None}
use Rattle.change_history.specs.History.{History}
use Rattle.jql_bound.specs.Condition.{Condition, now, past, all_of, any_of, Conditions, no_conditions, condition}
use Rattle.jql_meaning.specs.Surroundings.{Surroundings}
use Rattle.jql_meaning.specs.Present.{holds_now}
use Rattle.jql_meaning.specs.Past.{holds_past}

-- a condition at the present moment; each of several, or one of them
unfoldable mutual
  pub holds : Surroundings → History → ℕ → Condition → Bool
  holds s h t (now leaf) = holds_now s leaf h t
  holds s h t (past leaf) = holds_past s leaf h t
  holds s h t (all_of conditions) = all_hold s h t conditions
  holds s h t (any_of conditions) = some_holds s h t conditions

  pub all_hold : Surroundings → History → ℕ → Conditions → Bool
  all_hold s h t no_conditions = true
  all_hold s h t (condition c cs) = holds s h t c && all_hold s h t cs

  pub some_holds : Surroundings → History → ℕ → Conditions → Bool
  some_holds s h t no_conditions = false
  some_holds s h t (condition c cs) = holds s h t c || some_holds s h t cs

-- a query without a condition holds of every issue
unfoldable pub query_holds : Surroundings → History → ℕ → Option Condition → Bool
query_holds s h t None = true
query_holds s h t (Some c) = holds s h t c
