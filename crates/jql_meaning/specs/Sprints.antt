-- Surroundings that differ in sprints alone: in how far a sprint is, or in whether it is there.
use Rattle.std.specs.Prelude.{◌≡◌, ◌≢◌}
use Rattle.field_values.specs.declared.numbers.FieldNo.{FieldNo}
use Rattle.field_values.specs.declared.numbers.SprintNo.{SprintNo}
use Rattle.field_values.specs.declared.value.Value.{Value}
use Rattle.change_history.specs.History.{History, present}
use Rattle.jql_meaning.specs.Surroundings.{Surroundings, phase_of}

-- in sprints that the issue isn't in
pub record DifferInOtherSprints (one other : Surroundings) (h : History) : Type 0 where
  pub members : one.members ≡ other.members
  pub calendar : one.calendar ≡ other.calendar
  pub own : (field : FieldNo) (sprint : SprintNo) → present h field ≡ Value.Sprint sprint
      → phase_of one sprint ≡ phase_of other sprint

-- in this sprint
pub record DifferInOneSprint (one other : Surroundings) (sprint : SprintNo) : Type 0 where
  pub members : one.members ≡ other.members
  pub calendar : one.calendar ≡ other.calendar
  pub others : (no : SprintNo) → no ≢ sprint → phase_of one no ≡ phase_of other no

-- none of the issue's fields holds the sprint
abbrev pub IsNotIn : History → SprintNo → Type 0
IsNotIn h sprint = (field : FieldNo) → present h field ≢ Value.Sprint sprint
