-- The sprints that a call names, and that an issue comes into.
use Rattle.std.specs.Prelude.{◌≡◌, ◌==◌, ℕ, List, [], ◌∷◌, Option, None, if◌then◌else◌}
use Rattle.field_values.specs.declared.numbers.SprintNo.{SprintNo}
use Rattle.field_values.specs.declared.numbers.TheConstants.FieldNo as number
use Rattle.change_history.specs.declared.change.Change.{Change}
use Rattle.change_history.specs.declared.entry.Entry.{Entry}
use Rattle.burndown.specs.Reading.{sprint_in}
use Rattle.tracker_calls.specs.declared.given.GivenField.{GivenField}
use Rattle.tracker_machine.specs.Machine.{Machine}
use Rattle.tracker_machine.specs.Checks.{sprint_given, missing_sprint}
use Rattle.tracker_machine.specs.SprintRules.{OpensInSprints}

-- the sprint into which `set` puts the issue is there, if there is one
abbrev pub GivesKnownSprint : Machine → List GivenField → Type 0
GivesKnownSprint m set = missing_sprint m.sprints (sprint_given m.setup.field set) ≡ None

-- a sprint that a change is to is one of so many
abbrev pub AreOfSprints : ℕ → List Change → Type 0
AreOfSprints count changes = OpensInSprints count changes

-- the sprint that an issue is in after these entries, where it was in that one, if any, before
abbrev pub sprint_after : Option SprintNo → List Entry → Option SprintNo
sprint_after sprint [] = sprint
sprint_after sprint (e ∷ es) =
    sprint_after (if e.field.0 == number.SPRINT.0 then sprint_in e.to else sprint) es
