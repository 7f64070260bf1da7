-- What holds of every burndown.
use Rattle.std.specs.Prelude.{ℕ, ◌≡◌, List}
use Rattle.burndown.specs.Course.{Course, start_of}
use Rattle.burndown.specs.Tracked.{TrackedSprint}
use Rattle.burndown.specs.Burndown.{course_of, GrowsInRoom}
use Rattle.burndown.specs.Event.{Event, IsRightlyTold, NamesEachOnce, IsAfter}
use Rattle.burndown.specs.Remaining.{remaining, start, rows}

-- a sprint's course is what the events say
pub record IsCourseOf (issues : List ℕ) (s : ℕ) (events : List Event) (c : Course) : Type 0 where
  pub remaining_work : c.total ≡ remaining issues s events
  pub start : start_of c ≡ start issues s events
  pub rows : c.rows ≡ rows issues s events

-- whatever was told, the total is the sum over the issues as they were last told, and the rows are the groups that changed it
abbrev pub CoursesAreSums : Type 0
CoursesAreSums =
    (events : List Event) (issues : List ℕ) (b : List TrackedSprint) →
    IsAfter events b → IsRightlyTold events → NamesEachOnce issues events →
    (s : ℕ) → IsCourseOf issues s events (course_of b s)

-- room that is made changes nothing of this
abbrev pub RoomChangesNothing : Type 0
RoomChangesNothing =
    (events : List Event) (old new : List TrackedSprint) → IsAfter events old → GrowsInRoom old new
    → IsAfter events new
