-- The list of sprints.
use Rattle.std.specs.Prelude.{ℕ, ◌-◌, ◌<◌, ◌≤◌, ◌==◌, List, length, Option, None, option_map, slice_get, if◌then◌else◌}
use Rattle.sprints.specs.declared.sprint.Sprint.{Sprint}
use Rattle.sprints.specs.declared.state.SprintState.{SprintState}
use Rattle.sprints.specs.declared.state.SprintState.TheVariants.{Future}

-- the sprints, and how many of them there is room for
pub record SprintList : Type 0 where
  pub sprints : List Sprint
  pub room : ℕ

-- there is room for one more
abbrev pub HasRoomForOne : SprintList → Type 0
HasRoomForOne s = length s.sprints < s.room

-- a sprint that has just been made
abbrev pub future : List ℕ → Sprint
future name = record { name = name; state = Future }

-- a sprint is there where its number is between 1 and the number of sprints
abbrev pub IsThere : List Sprint → ℕ → Type 0
IsThere sprints n = (0 < n) × (n ≤ length sprints)

-- sprints are numbered from 1
abbrev pub sprint_of : List Sprint → ℕ → Option Sprint
sprint_of sprints n = if n == 0 then None else slice_get sprints (n - 1)

abbrev pub state_of : List Sprint → ℕ → Option SprintState
state_of sprints n = option_map (λ s. s.state) (sprint_of sprints n)

abbrev pub name_of : List Sprint → ℕ → Option (List ℕ)
name_of sprints n = option_map (λ s. s.name) (sprint_of sprints n)
