-- The sprints that a burndown tracks: what was told of each, and how many rows there is room for.
use Rattle.std.specs.Prelude.{ℕ, ◌≡◌, ◌<◌, ◌==◌, ℤ, List, [], ◌∷◌, vec_capacity, if◌then◌else◌}
use Rattle.field_values.specs.declared.numbers.SprintNo.{SprintNo}
use Rattle.burndown.specs.declared.progress.Progress.{Progress}
use Rattle.burndown.specs.declared.progress.Stage.TheVariants.{Ahead}
use Rattle.burndown.specs.Course.{Course, untold}

pub record TrackedSprint : Type 0 where
  pub sprint : ℕ
  pub course : Course
  pub slots : ℕ

abbrev pub course : ℤ → Progress → Course
course total p = record { total = total; stage = p.stage; rows = p.rows.items }

abbrev pub tracked_sprint : SprintNo × ℤ → Progress → TrackedSprint
tracked_sprint t p = record { sprint = t.0.0; course = course t.1 p; slots = vec_capacity p.rows }

-- totals and the rest stand side by side
abbrev pub tracked_sprints : List (SprintNo × ℤ) → List Progress → List TrackedSprint
tracked_sprints [] ps = []
tracked_sprints (t ∷ ts) [] = []
tracked_sprints (t ∷ ts) (p ∷ ps) = tracked_sprint t p ∷ tracked_sprints ts ps

-- a sprint by its number; one that isn't tracked has no room, and nothing was told of it
abbrev pub tracked_of : List TrackedSprint → ℕ → TrackedSprint
tracked_of [] s = record { sprint = s; course = untold; slots = 0 }
tracked_of (l ∷ ls) s = if l.sprint == s then l else tracked_of ls s

-- nothing was told of the sprint, and there is room for a row
pub record IsAhead (p : Progress) : Type 0 where
  pub stage : p.stage ≡ Ahead
  pub rows : p.rows.items ≡ []
  pub room : 0 < vec_capacity p.rows
