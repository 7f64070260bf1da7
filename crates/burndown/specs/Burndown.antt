-- The burndown of all sprints, and how calls change it.
use Rattle.std.specs.Prelude.{ℕ, ◌≡◌, ◌≢◌, ◌<◌, ◌≤◌, ◌==◌, ℤ, pos, List, [], ◌∷◌, length, slice_index_or, Option, if◌then◌else◌}
use Rattle.field_values.specs.declared.numbers.SprintNo.{SprintNo}
use Rattle.burndown.specs.declared.share.BurnRow.{BurnRow}
use Rattle.burndown.specs.declared.group.Group.{Group}
use Rattle.burndown.specs.declared.progress.Progress.{Progress}
use Rattle.burndown.specs.Share.{names}
use Rattle.burndown.specs.Course.{Course, IsTotal, after_group}
use Rattle.burndown.specs.Tracked.{TrackedSprint, tracked_of}

abbrev pub course_of : List TrackedSprint → ℕ → Course
course_of b s = (tracked_of b s).course

abbrev pub slots_of : List TrackedSprint → ℕ → ℕ
slots_of b s = (tracked_of b s).slots

abbrev pub remaining_of : List TrackedSprint → ℕ → ℤ
remaining_of b s = (course_of b s).total

abbrev pub rows_of : List TrackedSprint → ℕ → List BurnRow
rows_of b s = (course_of b s).rows

-- room was made for the sprint
abbrev pub IsReserved : List TrackedSprint → ℕ → Type 0
IsReserved b s = 0 < slots_of b s

-- there is room for one more row
abbrev pub HasRoom : List TrackedSprint → ℕ → Type 0
HasRoom b s = length (rows_of b s) < slots_of b s

-- the sprint's total stays in range when the group is taken in
abbrev pub FitsAfter : List TrackedSprint → ℕ → Group → Type 0
FitsAfter b s group = IsTotal (after_group s group (course_of b s)).total

-- one sprint's course becomes this one; all others stand, and so does all room
pub record ChangesOnly (old new : List TrackedSprint) (s : ℕ) (course : Course) : Type 0 where
  pub this : course_of new s ≡ course
  pub others : (q : ℕ) → q ≢ s → course_of new q ≡ course_of old q
  pub room : (q : ℕ) → slots_of new q ≡ slots_of old q

-- each sprint takes the group in
pub record TellsGroup (old new : List TrackedSprint) (group : Group) : Type 0 where
  pub courses : (s : ℕ) → course_of new s ≡ after_group s group (course_of old s)
  pub room : (s : ℕ) → slots_of new s ≡ slots_of old s

-- this sprint takes the group in, if it is one
pub record TellsNamed (old new : List TrackedSprint) (sprint : Option SprintNo)
    (group : Group) : Type 0 where
  pub courses : (s : ℕ)
      → course_of new s
      ≡ (if names sprint s then after_group s group (course_of old s) else course_of old s)
  pub room : (s : ℕ) → slots_of new s ≡ slots_of old s

-- room may grow, and all else stands
pub record GrowsInRoom (old new : List TrackedSprint) : Type 0 where
  pub courses : (s : ℕ) → course_of new s ≡ course_of old s
  pub room : (s : ℕ) → slots_of old s ≤ slots_of new s

-- the number and the total at a place of the list of totals
abbrev pub sprint_at : List (SprintNo × ℤ) → ℕ → ℕ
sprint_at ts i = let t = slice_index_or ts i (record { 0 = 0 }, pos 0) in t.0.0

abbrev pub total_at : List (SprintNo × ℤ) → ℕ → ℤ
total_at ts i = let t = slice_index_or ts i (record { 0 = 0 }, pos 0) in t.1

-- the sprints' numbers rise
abbrev pub IsRising : List (SprintNo × ℤ) → Type 0
IsRising ts = (i j : ℕ) → i < j → j < length ts → sprint_at ts i < sprint_at ts j

-- a sprint's total in the list, and 0 where it isn't listed
abbrev pub total_in : List (SprintNo × ℤ) → ℕ → ℤ
total_in [] s = pos 0
total_in (t ∷ ts) s = if t.0.0 == s then t.1 else total_in ts s

-- what the fields keep: totals in order and in range, and as many courses
pub record IsKept (ts : List (SprintNo × ℤ)) (ps : List Progress) : Type 0 where
  pub same_length : length ps ≡ length ts
  pub rising : IsRising ts
  pub in_range : (i : ℕ) → i < length ts → IsTotal (total_at ts i)

-- the sprint stands at this place
pub record IsAt (ts : List (SprintNo × ℤ)) (s i : ℕ) : Type 0 where
  pub in_range : i < length ts
  pub is_it : sprint_at ts i ≡ s

-- the sprint would go to this place: smaller numbers stand before it, and greater ones from it on
pub record IsGapFor (ts : List (SprintNo × ℤ)) (s i : ℕ) : Type 0 where
  pub in_range : i ≤ length ts
  pub smaller_before : (j : ℕ) → j < i → sprint_at ts j < s
  pub greater_after : (j : ℕ) → i ≤ j → j < length ts → s < sprint_at ts j
