-- A burndown that is told of kept histories again, group by group, start by start and close by close.
use Rattle.std.specs.Prelude.{ℕ, ◌≡◌, ◌+◌, ◌<◌, ◌≤◌, nat_lt, List, IfSome, if◌then◌else◌}
use Rattle.sprints.specs.declared.state.SprintState.{SprintState}
use Rattle.sprints.specs.Sprint.{IsThere}
use Rattle.burndown.specs.Tracked.{TrackedSprint}
use Rattle.burndown.specs.Burndown.{IsReserved, slots_of}
use Rattle.burndown.specs.Chart.{IsBurndownOf}
use Rattle.tracker_work.specs.declared.replay.Origin.{Origin}
use Rattle.tracker_work.specs.declared.replay.Replay.{Replay}
use Rattle.change_history.specs.History.{histories_of}
use Rattle.tracker_work.specs.Seen.{Seen, reading_of, state_in}
use Rattle.tracker_work.specs.States.{state_before, IsUpTo, StaysUntil}

-- what a burndown is made from
abbrev pub seen_in : Origin → Seen
seen_in o =
    record {
      done = o.done.items;
      sprints = o.sprints.sprints;
      histories = histories_of o.issues.value.items;
      change = o.change;
    }

-- each sprint that is there has room
abbrev pub AreReserved : Seen → List TrackedSprint → Type 0
AreReserved seen b = (s : ℕ) → IsThere seen.sprints s → IsReserved b s

-- there is as much room as before
abbrev pub HasSameSlots : List TrackedSprint → List TrackedSprint → Type 0
HasSameSlots old new = (s : ℕ) → slots_of new s ≡ slots_of old s

-- a burndown is that of the histories up to group n, with the sprints in states that this gives by their last ones
abbrev pub IsChartedBy : Seen → ℕ → List TrackedSprint → (SprintState → SprintState) → Type 0
IsChartedBy seen n b by =
    IsBurndownOf (reading_of seen) seen.histories (λ s. by (state_in seen.sprints s)) n b

-- the same, where the one gives the states of sprints from number k on, and the other those of all before it
abbrev pub state_within : Seen → (SprintState → SprintState) → (SprintState → SprintState) → ℕ → ℕ
    → SprintState
state_within seen by other k s =
    if nat_lt s k then other (state_in seen.sprints s) else by (state_in seen.sprints s)

abbrev pub IsChartedWithin : Seen → ℕ → List TrackedSprint → (SprintState → SprintState)
    → (SprintState → SprintState) → ℕ → Type 0
IsChartedWithin seen n b by other k =
    IsBurndownOf (reading_of seen) seen.histories (state_within seen by other k) n b

-- what was told is all up to group `reached`, with what happened after it; and `next` is where a sprint starts or closes next
pub record IsReplayed (seen : Seen) (r : Replay) : Type 0 where
  pub charts : IsChartedBy seen r.reached r.burndown (state_before (r.reached + 1))
  pub reserved : AreReserved seen r.burndown
  pub next : (s : ℕ) → StaysUntil r.reached r.next (state_in seen.sprints s)
  pub ahead : IfSome r.next (λ n. r.reached < n)

-- the same, where what happened after that group is still to be told
pub record IsReached (seen : Seen) (r : Replay) : Type 0 where
  pub charts : IsChartedBy seen r.reached r.burndown (state_before r.reached)
  pub reserved : AreReserved seen r.burndown
  pub next : (s n : ℕ) → r.reached < n → IsUpTo r.next n
      → state_before n (state_in seen.sprints s) ≡ state_before r.reached (state_in seen.sprints s)
  pub ahead : IfSome r.next (λ n. r.reached ≤ n)
