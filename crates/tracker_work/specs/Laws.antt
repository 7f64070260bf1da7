-- What holds of all sprints.
use Rattle.std.specs.Prelude.{ℕ, ◌≡◌, []}
use Rattle.sprints.specs.declared.state.SprintState.TheVariants.{Future, Active, Closed}
use Rattle.burndown.specs.AfterGroup.{remaining_then}
use Rattle.tracker_work.specs.Seen.{Seen, reading_of, state_in, sprint_start, sprint_left, sprint_rows}

-- a future sprint has no rows, and starts with what remains now
pub record IsAheadIn (seen : Seen) (s : ℕ) : Type 0 where
  pub rows : sprint_rows seen s ≡ []
  pub start : sprint_start seen s ≡ remaining_then (reading_of seen) seen.histories s seen.change
  pub left : sprint_left seen s ≡ remaining_then (reading_of seen) seen.histories s seen.change

abbrev pub FutureSprintsAreAhead : Type 0
FutureSprintsAreAhead = (seen : Seen) (s : ℕ) → state_in seen.sprints s ≡ Future → IsAheadIn seen s

-- an active sprint started with what remained then, and has left what remains now
pub record IsRunningIn (seen : Seen) (s change : ℕ) : Type 0 where
  pub start : sprint_start seen s ≡ remaining_then (reading_of seen) seen.histories s change
  pub left : sprint_left seen s ≡ remaining_then (reading_of seen) seen.histories s seen.change

abbrev pub ActiveSprintsRun : Type 0
ActiveSprintsRun =
    (seen : Seen) (s at change : ℕ) → state_in seen.sprints s ≡ Active at change
    → IsRunningIn seen s change

-- a closed sprint started with what remained then, and has left what remained at its close
pub record IsOverIn (seen : Seen) (s start_change change : ℕ) : Type 0 where
  pub start : sprint_start seen s ≡ remaining_then (reading_of seen) seen.histories s start_change
  pub left : sprint_left seen s ≡ remaining_then (reading_of seen) seen.histories s change

abbrev pub ClosedSprintsAreOver : Type 0
ClosedSprintsAreOver =
    (seen : Seen) (s start_at start_change at change : ℕ)
    → state_in seen.sprints s ≡ Closed start_at start_change at change →
    IsOverIn seen s start_change change
