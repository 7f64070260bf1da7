-- What holds of all sprints.
use Rattle.std.specs.Prelude.{ℕ, ◌≡◌, ◌≢◌, List, None}
use Rattle.sprints.specs.declared.sprint.Sprint.{Sprint}
use Rattle.sprints.specs.declared.state.SprintState.{SprintState}
use Rattle.sprints.specs.declared.state.SprintState.TheVariants.{Closed}
use Rattle.sprints.specs.State.{after_start, after_close}
use Rattle.sprints.specs.Sprint.{IsThere, sprint_of, name_of}
use Rattle.sprints.specs.Change.{IsInState}

-- where one sprint changes its state, every other stands
abbrev pub OthersStand : Type 0
OthersStand =
    (old new : List Sprint) (n : ℕ) (state : SprintState) → IsThere old n
    → IsInState old new n state →
    (other : ℕ) → other ≢ n → sprint_of new other ≡ sprint_of old other

-- where one sprint changes its state, every name stands
abbrev pub NamesStand : Type 0
NamesStand =
    (old new : List Sprint) (n : ℕ) (state : SprintState) → IsThere old n
    → IsInState old new n state →
    (any : ℕ) → name_of new any ≡ name_of old any

-- nothing follows a closed sprint
abbrev pub NothingFollowsClosed : Type 0
NothingFollowsClosed =
    (start_at start_change end_at end_change at change : ℕ) →
    let closed : SprintState = Closed start_at start_change end_at end_change in
    (after_start closed at change ≡ None) × (after_close closed at change ≡ None)
