-- What a burndown is told: change groups, begins and ends of sprints. In a list of events the latest stands first.
use Rattle.std.specs.Prelude.{ℕ, ◌≡◌, ◌+◌, ◌==◌, List, [], ◌∷◌, Option, Some, None, if◌then◌else◌}
use Rattle.burndown.specs.declared.share.Share.{Share}
use Rattle.burndown.specs.declared.group.Group.{Group}
use Rattle.burndown.specs.declared.progress.Stage.TheVariants.{Ahead}
use Rattle.burndown.specs.Course.{IsRunning, begun, ended}
use Rattle.burndown.specs.Tracked.{TrackedSprint}
use Rattle.burndown.specs.Burndown.{course_of, ChangesOnly, TellsGroup, GrowsInRoom}
use Rattle.burndown.specs.Course.{untold}

pub data Event : Type 0 where
  Changes : Group → Event
  Begins : ℕ → Event
  Ends : ℕ → Event

-- the share that an issue was last told to have
abbrev pub last_told : List Event → ℕ → Option Share
last_told [] issue = None
last_told (Changes group ∷ past) issue =
    if group.issue.0 == issue then Some group.after else last_told past issue
last_told (Begins s ∷ past) issue = last_told past issue
last_told (Ends s ∷ past) issue = last_told past issue

-- each group says rightly what its issue's share was
abbrev pub IsRightlyTold : List Event → Type 0
IsRightlyTold [] = Unit {0}
IsRightlyTold (Changes group ∷ past) =
    (group.before ≡ last_told past group.issue.0) × IsRightlyTold past
IsRightlyTold (Begins s ∷ past) = IsRightlyTold past
IsRightlyTold (Ends s ∷ past) = IsRightlyTold past

-- how often a list names an issue
abbrev pub times : ℕ → List ℕ → ℕ
times issue [] = 0
times issue (i ∷ issues) = (if issue == i then 1 else 0) + times issue issues

-- the list names each issue that was told, once
abbrev pub NamesEachOnce : List ℕ → List Event → Type 0
NamesEachOnce issues [] = Unit {0}
NamesEachOnce issues (Changes group ∷ past) =
    (times group.issue.0 issues ≡ 1) × NamesEachOnce issues past
NamesEachOnce issues (Begins s ∷ past) = NamesEachOnce issues past
NamesEachOnce issues (Ends s ∷ past) = NamesEachOnce issues past

-- what a call makes of a burndown
abbrev pub Follows : List TrackedSprint → Event → List TrackedSprint → Type 0
Follows old (Changes group) new = TellsGroup old new group
Follows old (Begins s) new =
    ((course_of old s).stage ≡ Ahead) × ChangesOnly old new s (begun (course_of old s))
Follows old (Ends s) new =
    IsRunning (course_of old s).stage × ChangesOnly old new s (ended (course_of old s))

-- a burndown to which these events led from an empty one; room may have been made at any time
abbrev pub IsAfter : List Event → List TrackedSprint → Type 0
IsAfter [] b = (s : ℕ) → course_of b s ≡ untold
IsAfter (event ∷ past) b =
    (old : List TrackedSprint) × (new : List TrackedSprint) × IsAfter past old
    × Follows old event new × GrowsInRoom new b
