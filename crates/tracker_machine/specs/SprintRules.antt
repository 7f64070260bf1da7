-- Sprints: what holds of all of them, and which issues are in one.
use Rattle.std.specs.Prelude.{◌≡◌, ◌<◌, ◌≤◌, ◌-◌, ◌==◌, ◌&&◌, ℕ, Bool, true, false, nat_le, List, [], ◌∷◌, ◌++◌, length, slice_set, sum_by, if◌then◌else◌}
use Rattle.std.specs.List.{All}
use Rattle.std.specs.Option.{option_map_or}
use Rattle.field_values.specs.declared.numbers.FieldNo.{FieldNo}
use Rattle.field_values.specs.declared.numbers.SprintNo.{SprintNo}
use Rattle.field_values.specs.declared.numbers.TheConstants.FieldNo as number
use Rattle.field_values.specs.declared.value.Value.{Value}
use Rattle.field_values.specs.declared.value.Value.TheVariants as value
use Rattle.field_forms.specs.Names.{is_title}
use Rattle.tracker_limits.specs.Limits.{most_sprints}
use Rattle.change_history.specs.declared.change.Change.{Change}
use Rattle.change_history.specs.declared.entry.Entry.{Entry}
use Rattle.change_history.specs.History.{History, present}
use Rattle.jql_bound.specs.declared.context.Phase.{Phase}
use Rattle.jql_bound.specs.declared.context.Phase.TheVariants as phase
use Rattle.sprints.specs.declared.sprint.Sprint.{Sprint}
use Rattle.sprints.specs.declared.state.SprintState.{SprintState}
use Rattle.sprints.specs.declared.state.SprintState.TheVariants.{Future, Active, Closed}
use Rattle.sprints.specs.Sprint.{IsThere, future, sprint_of}
use Rattle.sprints.specs.State.{IsNextState}
use Rattle.tracker_work.specs.Seen.{state_in}

-- ---- states

-- how far a sprint of this state is
abbrev pub phase_of : SprintState → Phase
phase_of Future = phase.Future
phase_of (Active at change) = phase.Active
phase_of (Closed start_at start_change at change) = phase.Closed

abbrev pub is_closed : SprintState → Bool
is_closed (Closed start_at start_change at change) = true
is_closed _ = false

-- the sprints with one more, which is future
abbrev pub with_future : List Sprint → List ℕ → List Sprint
with_future sprints name = sprints ++ future name ∷ []

-- the sprints with that one in another state, where it is there
abbrev pub in_state : List Sprint → ℕ → SprintState → List Sprint
in_state sprints n state =
    option_map_or (λ x. slice_set sprints (n - 1) (record x { state = state }))
    (sprint_of sprints n) sprints

-- ---- issues of a sprint

abbrev pub is_sprint : ℕ → Value → Bool
is_sprint n (value.Sprint own) = own.0 == n
is_sprint n v = false

-- the issue's field sprint holds this one
abbrev pub is_in_sprint : ℕ → History → Bool
is_in_sprint n h = is_sprint n (present h number.SPRINT)

-- so many for each issue that is in the sprint
abbrev pub sum_in_sprint : ℕ → ℕ → List History → ℕ
sum_in_sprint n sprint histories = sum_by (λ h. if is_in_sprint sprint h then n else 0) histories

-- a sprint that a value names is one of so many
abbrev pub is_of_sprints : ℕ → Value → Bool
is_of_sprints count (value.Sprint sprint) = nat_le 1 sprint.0 && nat_le sprint.0 count
is_of_sprints count _ = true

-- so is that of each value that the issue opens with
abbrev pub OpensInSprints : ℕ → List Change → Type 0
OpensInSprints count [] = Unit {0}
OpensInSprints count (c ∷ cs) = (is_of_sprints count c.to ≡ true) × OpensInSprints count cs

-- and of each value that entries bring
abbrev pub BringsSprints : ℕ → List Entry → Type 0
BringsSprints count [] = Unit {0}
BringsSprints count (e ∷ es) = (is_of_sprints count e.to ≡ true) × BringsSprints count es

-- all sprints that the issue has been in are there, among so many, and so is the one that it is in
pub record IsInSprints (count : ℕ) (h : History) : Type 0 where
  pub opened : OpensInSprints count h.opening
  pub entries : BringsSprints count h.entries
  pub now : (f : FieldNo) → is_of_sprints count (present h f) ≡ true

-- ---- what holds of them

-- nothing of a sprint is later than now, and its close isn't before its start
abbrev pub IsTimely : ℕ → ℕ → SprintState → Type 0
IsTimely moment change Future = Unit {0}
IsTimely moment change (Active at number) = (at ≤ moment) × (number ≤ change)
IsTimely moment change (Closed start_at start_number at number) =
    (start_at ≤ at) × (start_number ≤ number) × (at ≤ moment) × (number ≤ change)

-- a sprint has a name of its form, and is timely
pub record IsSprint (moment change : ℕ) (s : Sprint) : Type 0 where
  pub named : is_title s.name ≡ true
  pub timely : IsTimely moment change s.state

-- the sprints of a tracker: each is one, there are not too many, and all that issues have been in are there
pub record AreSprints (moment change : ℕ) (sprints : List Sprint)
    (histories : List History) : Type 0 where
  pub few : length sprints ≤ most_sprints
  pub each : All (IsSprint moment change) sprints
  pub issues : All (IsInSprints (length sprints)) histories

-- ---- what may come

-- a sprint of this name may come
pub record MayMakeSprint (sprints : List Sprint) (name : List ℕ) : Type 0 where
  pub named : is_title name ≡ true
  pub few : length sprints < most_sprints

-- a sprint that is there may come to this state
pub record MayTurn (moment change : ℕ) (sprints : List Sprint) (sprint : SprintNo)
    (state : SprintState) : Type 0 where
  pub there : IsThere sprints sprint.0
  pub next : IsNextState moment change (state_in sprints sprint.0) state
