-- The states that sprints were in by numbers of change groups.
use Rattle.std.specs.Prelude.{ℕ, ◌≡◌, ◌==◌, ◌+◌, ◌<◌, ◌≤◌, nat_lt, Bool, false, Option, Some, None, if◌then◌else◌}
use Rattle.sprints.specs.declared.state.SprintState.{SprintState}
use Rattle.sprints.specs.declared.state.SprintState.TheVariants.{Future, Active, Closed}

-- the state that a sprint was in before what happened after group n
abbrev pub state_before : ℕ → SprintState → SprintState
state_before n Future = Future
state_before n (Active at change) = if nat_lt change n then Active at change else Future
state_before n (Closed start_at start_change at change) =
    if nat_lt change n then Closed start_at start_change at change
    else (if nat_lt start_change n then Active start_at start_change else Future)

-- the same, but with the starts that happened after it
abbrev pub state_begun : ℕ → SprintState → SprintState
state_begun n Future = Future
state_begun n (Active at change) = if nat_lt change (n + 1) then Active at change else Future
state_begun n (Closed start_at start_change at change) =
    if nat_lt change n then Closed start_at start_change at change
    else (if nat_lt start_change (n + 1) then Active start_at start_change else Future)

-- whether a sprint started, or closed, after just that group
abbrev pub starts_after : ℕ → SprintState → Bool
starts_after n Future = false
starts_after n (Active at change) = change == n
starts_after n (Closed start_at start_change at change) = start_change == n

abbrev pub closes_after : ℕ → SprintState → Bool
closes_after n Future = false
closes_after n (Active at change) = false
closes_after n (Closed start_at start_change at change) = change == n

-- a sprint that is closed wasn't closed before its start
abbrev pub ClosesAfterStart : SprintState → Type 0
ClosesAfterStart Future = Unit {0}
ClosesAfterStart (Active at change) = Unit {0}
ClosesAfterStart (Closed start_at start_change at change) = start_change ≤ change

-- a number is up to that one, if there is one
abbrev pub IsUpTo : Option ℕ → ℕ → Type 0
IsUpTo None n = Unit {0}
IsUpTo (Some next) n = n ≤ next

-- a sprint neither starts nor closes after a group above that one, up to the one before `next`
abbrev pub StaysUntil : ℕ → Option ℕ → SprintState → Type 0
StaysUntil after next state =
    (n : ℕ) → after < n → IsUpTo next n → state_before n state ≡ state_before (after + 1) state
