-- Several conditions together.
use Rattle.std.specs.Prelude.{ℕ, Bool, true, false}
use Rattle.change_history.specs.History.{History}
use Rattle.jql_bound.specs.Condition.{Conditions}
use Rattle.jql_meaning.specs.Surroundings.{Surroundings}
use Rattle.jql_meaning.specs.Truth.{all_hold, some_holds}

-- where one that holds decides, one of them is enough; where one that doesn't hold decides, each of them is needed
abbrev pub joined : Bool → Surroundings → History → ℕ → Conditions → Bool
joined true s h t conditions = some_holds s h t conditions
joined false s h t conditions = all_hold s h t conditions
