-- What decides beside an issue and the moment: how far the sprints are, who is in the groups, and the local calendar.
use Rattle.std.specs.Prelude.{ℕ, ◌-◌, ◌==◌, Bool, true, false, List, [], slice_get, Option, Some, None, unwrap_or, if◌then◌else◌}
use Rattle.field_values.specs.declared.numbers.UserNo.{UserNo}
use Rattle.field_values.specs.declared.numbers.GroupNo.{GroupNo}
use Rattle.field_values.specs.declared.numbers.SprintNo.{SprintNo}
use Rattle.relative_dates.specs.Calendar.{LocalCalendar}
use Rattle.jql_bound.specs.declared.context.Phase.{Phase}
use Rattle.jql_bound.specs.declared.context.Context.{Context}

pub record Surroundings : Type 0 where
  pub sprints : List Phase
  pub members : List (List UserNo)
  pub calendar : LocalCalendar

-- those of a context
abbrev pub surroundings_of : Context → Surroundings
surroundings_of c =
    record { sprints = c.sprints.items; members = c.members.items; calendar = c.calendar }

-- the one of a number, counted from 1
abbrev pub numbered : {X : Type 0} → List X → ℕ → Option X
numbered xs n = if n == 0 then None else slice_get xs (n - 1)

-- how far a sprint is, if there is one of that number
abbrev pub phase_of : Surroundings → SprintNo → Option Phase
phase_of s sprint = numbered s.sprints sprint.0

abbrev pub is_phase : Phase → Phase → Bool
is_phase Phase.Future Phase.Future = true
is_phase Phase.Active Phase.Active = true
is_phase Phase.Closed Phase.Closed = true
is_phase one other = false

-- there is a sprint of that number, and it is in the phase
abbrev pub is_in_phase : Phase → Option Phase → Bool
is_in_phase phase None = false
is_in_phase phase (Some other) = is_phase other phase

-- the users of a group
abbrev pub members_of : Surroundings → GroupNo → List UserNo
members_of s group = unwrap_or (numbered s.members group.0) []
