-- What filters have seen that are put in one behind the other.
use Rattle.std.specs.Prelude.{ℕ, ◌≡◌, List}
use Rattle.change_history.specs.History.{History}
use Rattle.jql_meaning.specs.Surroundings.{Surroundings}
use Rattle.tracker_filters.specs.Watched.{WatchedFilters}

-- the filters have seen these histories, this beside them, and this moment
pub record HasSeen (histories : List History) (around : Surroundings) (moment : ℕ)
    (w : WatchedFilters) : Type 0 where
  pub histories_are : w.histories ≡ histories
  pub around_is : w.around ≡ around
  pub moment_is : w.moment ≡ moment
