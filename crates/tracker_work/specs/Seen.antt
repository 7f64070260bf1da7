-- What was seen of a tracker: sprints and histories. What remains of each sprint goes by this alone.
use Rattle.std.specs.Prelude.{ℕ, ◌+◌, ◌-◌, ℤ, Bool, true, false, List, [], ◌∷◌, ◌++◌, map, slice_get, slice_set, unwrap_or}
use Rattle.std.specs.Option.{option_map_or}
use Rattle.field_values.specs.declared.numbers.ChoiceNo.{ChoiceNo}
use Rattle.field_values.specs.declared.numbers.FieldNo.{FieldNo}
use Rattle.field_values.specs.declared.status.Status.{Status}
use Rattle.field_values.specs.declared.value.Value.{Value}
use Rattle.field_values.specs.declared.words.Category.{Category}
use Rattle.field_values.specs.declared.words.Category.TheVariants.{ToDo, InProgress, Done}
use Rattle.change_history.specs.History.{History, present}
use Rattle.sprints.specs.declared.sprint.Sprint.{Sprint}
use Rattle.sprints.specs.declared.state.SprintState.{SprintState}
use Rattle.sprints.specs.declared.state.SprintState.TheVariants.{Future}
use Rattle.sprints.specs.Sprint.{future, sprint_of, state_of}
use Rattle.burndown.specs.declared.share.Share.{Share}
use Rattle.burndown.specs.declared.share.BurnRow.{BurnRow}
use Rattle.burndown.specs.Reading.{share_of}
use Rattle.burndown.specs.Chart.{start_by, left_by, rows_by}

-- which statuses are of the category done, by their places; the sprints, by their numbers from 1; the histories of all issues;
-- and the number of their last change group
pub record Seen : Type 0 where
  pub done : List Bool
  pub sprints : List Sprint
  pub histories : List History
  pub change : ℕ

abbrev pub is_done : Category → Bool
is_done ToDo = false
is_done InProgress = false
is_done Done = true

abbrev pub done_of : List Status → List Bool
done_of statuses = map (λ s. is_done s.category) statuses

abbrev pub is_done_by : List Bool → ChoiceNo → Bool
is_done_by done status = unwrap_or (slice_get done status.0) false

-- how the values of an issue's fields are read as its share
abbrev pub reading_of : Seen → (FieldNo → Value) → Share
reading_of seen = share_of (is_done_by seen.done)

-- what an issue counts for now
abbrev pub share_now : Seen → History → Share
share_now seen h = reading_of seen (present h)

-- the state of a sprint; one that isn't there yet is future
abbrev pub state_in : List Sprint → ℕ → SprintState
state_in sprints s = unwrap_or (state_of sprints s) Future

-- what remained of a sprint at its start, or remains now where it hasn't started
abbrev pub sprint_start : Seen → ℕ → ℤ
sprint_start seen s =
    start_by (reading_of seen) seen.histories s (state_in seen.sprints s) seen.change

-- what remained of a sprint at its close, or remains now where it isn't closed
abbrev pub sprint_left : Seen → ℕ → ℤ
sprint_left seen s =
    left_by (reading_of seen) seen.histories s (state_in seen.sprints s) seen.change

-- the groups behind a sprint's start, and up to its close, that changed what remains
abbrev pub sprint_rows : Seen → ℕ → List BurnRow
sprint_rows seen s =
    rows_by (reading_of seen) seen.histories s (state_in seen.sprints s) seen.change

-- with one more sprint
abbrev pub with_sprint : Seen → List ℕ → Seen
with_sprint seen name = record seen { sprints = seen.sprints ++ future name ∷ [] }

-- with a sprint in another state, where it is there
abbrev pub with_state : Seen → ℕ → SprintState → Seen
with_state seen s state =
    option_map_or (λ x. record seen
    { sprints = slice_set seen.sprints (s - 1) (record x { state = state }) })
    (sprint_of seen.sprints s) seen

-- with the histories after one more change group
abbrev pub with_histories : Seen → List History → Seen
with_histories seen histories = record seen { histories = histories; change = seen.change + 1 }
