-- The burndown of a sprint by numbers of change groups, over whole histories.
use Rattle.std.specs.Prelude.{ℕ, suc, zero, nat_lt, ◌≤◌, ◌≡◌, ℤ, ◌-ℤ◌, List, [], ◌∷◌, ◌++◌, Option, Some, None, if◌then◌else◌}
use Rattle.std.specs.Ordering.{int_eq}
use Rattle.field_values.specs.declared.numbers.FieldNo.{FieldNo}
use Rattle.field_values.specs.declared.numbers.IssueNo.{IssueNo}
use Rattle.field_values.specs.declared.value.Value.{Value}
use Rattle.change_history.specs.History.{History}
use Rattle.sprints.specs.declared.state.SprintState.{SprintState}
use Rattle.sprints.specs.declared.state.SprintState.TheVariants.{Future, Active, Closed}
use Rattle.burndown.specs.declared.share.Share.{Share}
use Rattle.burndown.specs.declared.share.BurnRow.{BurnRow}
use Rattle.burndown.specs.declared.progress.Stage.{Stage}
use Rattle.burndown.specs.declared.progress.Stage.TheVariants.{Ahead, Running, Ended}
use Rattle.burndown.specs.Course.{Course}
use Rattle.burndown.specs.Tracked.{TrackedSprint}
use Rattle.burndown.specs.Burndown.{course_of}
use Rattle.burndown.specs.AfterGroup.{remaining_then, group_numbered}

-- a group has a row exactly where what remains differs from what remained before it
abbrev pub row_of_group : Option (ℕ × IssueNo) → ℕ → ℤ → ℤ → List BurnRow
row_of_group None n was left = []
row_of_group (Some group) n was left =
    if int_eq left was then []
    else record { at = group.0; change = n; issue = group.1; by = left -ℤ was; left = left } ∷ []

-- the rows of the groups after number `low`, up to number n
abbrev pub rows_between : ((FieldNo → Value) → Share) → List History → ℕ → ℕ → ℕ → List BurnRow
rows_between reading hs s low zero = []
rows_between reading hs s low (suc n) =
    if nat_lt low (suc n)
    then rows_between reading hs s low n
    ++ row_of_group (group_numbered hs (suc n)) (suc n) (remaining_then reading hs s n)
    (remaining_then reading hs s (suc n))
    else []

-- the numbers between which groups have rows: from the start on, and up to the close, or to the last group now; a future sprint has no rows
abbrev pub first_number : SprintState → ℕ → ℕ
first_number Future now = now
first_number (Active _ change) now = change
first_number (Closed _ change _ _) now = change

abbrev pub last_number : SprintState → ℕ → ℕ
last_number Future now = now
last_number (Active _ _) now = now
last_number (Closed _ _ _ change) now = change

-- what remained at the start, or now where the sprint is future
abbrev pub start_by : ((FieldNo → Value) → Share) → List History → ℕ → SprintState → ℕ → ℤ
start_by reading hs s state now = remaining_then reading hs s (first_number state now)

-- what remains at the close, or now where the sprint isn't closed
abbrev pub left_by : ((FieldNo → Value) → Share) → List History → ℕ → SprintState → ℕ → ℤ
left_by reading hs s state now = remaining_then reading hs s (last_number state now)

abbrev pub rows_by : ((FieldNo → Value) → Share) → List History → ℕ → SprintState → ℕ → List BurnRow
rows_by reading hs s state now =
    rows_between reading hs s (first_number state now) (last_number state now)

-- a stage is a sprint's state with what remained at the start
abbrev pub stage_by : SprintState → ℤ → Stage
stage_by Future start = Ahead
stage_by (Active _ _) start = Running start
stage_by (Closed _ _ _ _) start = Ended start

abbrev pub course_by : ((FieldNo → Value) → Share) → List History → ℕ → SprintState → ℕ → Course
course_by reading hs s state now = record {
  total = left_by reading hs s state now;
  stage = stage_by state (start_by reading hs s state now);
  rows = rows_by reading hs s state now;
}

-- a sprint's numbers are no greater than that of the last group
abbrev pub IsPast : ℕ → SprintState → Type 0
IsPast now Future = Unit {0}
IsPast now (Active _ change) = change ≤ now
IsPast now (Closed _ start_change _ change) = (start_change ≤ now) × (change ≤ now)

-- a burndown is that of these histories up to group number `now`, with the sprints in these states
pub record IsBurndownOf (reading : (FieldNo → Value) → Share) (hs : List History)
    (states : ℕ → SprintState) (now : ℕ) (b : List TrackedSprint) : Type 0 where
  pub past : (s : ℕ) → IsPast now (states s)
  pub courses : (s : ℕ) → course_of b s ≡ course_by reading hs s (states s) now
