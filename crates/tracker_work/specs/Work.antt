-- The burndown of all sprints, beside what was seen.
use Rattle.std.specs.Prelude.{◌≡◌, ◌≤◌, ◌<◌, ◌+◌, ℕ, List, [], ◌∷◌, ◌++◌, length, slice_get, slice_set, Option, Some, IfSome}
use Rattle.field_values.specs.declared.numbers.SprintNo.{SprintNo}
use Rattle.field_values.specs.declared.numbers.UserNo.{UserNo}
use Rattle.tracker_limits.specs.Limits.{most_issues}
use Rattle.change_history.specs.declared.entry.Entry.{Entry}
use Rattle.change_history.specs.History.{History, MayAdd}
use Rattle.sprints.specs.Sprint.{IsThere}
use Rattle.burndown.specs.declared.share.Share.{Share}
use Rattle.burndown.specs.declared.group.Group.{Group}
use Rattle.burndown.specs.Group.{sprint_before}
use Rattle.burndown.specs.Tracked.{TrackedSprint}
use Rattle.burndown.specs.Burndown.{IsReserved, HasRoom, FitsAfter, TellsGroup, GrowsInRoom, slots_of}
use Rattle.burndown.specs.Chart.{IsBurndownOf}
use Rattle.burndown.specs.Told.{HaveNumbersUpTo, AreFew, ArePoints, HavePoints}
use Rattle.burndown.specs.ChartLaws.{with_entries}
use Rattle.tracker_work.specs.Seen.{Seen, reading_of, share_now, state_in, with_histories}

-- what was seen, how many sprints there is room for, and what is kept of each sprint, with the room for its rows
pub record TrackedWork : Type 0 where
  pub seen : Seen
  pub room : ℕ
  pub burndown : List TrackedSprint

-- what is kept is what the histories say; each sprint that is there has room; each group has a number up to the last one; and the
-- issues and their points are so few that every total fits
pub record IsWork (w : TrackedWork) : Type 0 where
  pub charts : IsBurndownOf (reading_of w.seen) w.seen.histories
      (state_in w.seen.sprints) w.seen.change w.burndown
  pub reserved : (s : ℕ) → IsThere w.seen.sprints s → IsReserved w.burndown s
  pub numbers : HaveNumbersUpTo w.seen.change w.seen.histories
  pub few : AreFew w.seen.histories
  pub points : HavePoints (reading_of w.seen) w.seen.histories

-- ---- room

-- room may grow, and all else stands
pub record OnlyRoomGrows (old new : TrackedWork) : Type 0 where
  pub seen : new.seen ≡ old.seen
  pub sprints : old.room ≤ new.room
  pub rows : GrowsInRoom old.burndown new.burndown

-- there is as much room as before
pub record HasSameRoom (old new : TrackedWork) : Type 0 where
  pub sprints : new.room ≡ old.room
  pub rows : (s : ℕ) → slots_of new.burndown s ≡ slots_of old.burndown s

-- there is room for one more sprint
pub record HasRoomForSprint (w : TrackedWork) : Type 0 where
  pub sprints : length w.seen.sprints < w.room
  pub rows : IsReserved w.burndown (length w.seen.sprints + 1)

-- there is room for a row of this sprint, if it is one
abbrev pub HasRoomFor : TrackedWork → Option SprintNo → Type 0
HasRoomFor w sprint = IfSome sprint (λ s. HasRoom w.burndown s.0)

-- ---- change groups

-- a group may be told, after which the histories are these: there is room for its rows, each total stays in range, and what is kept then
-- is what they say
pub record MayTell (w : TrackedWork) (group : Group) (new : List History) : Type 0 where
  pub room_before : HasRoomFor w (sprint_before group.before)
  pub room_after : HasRoomFor w group.after.sprint
  pub fits : (s : ℕ) → FitsAfter w.burndown s group
  pub told : (b : List TrackedSprint) → TellsGroup w.burndown b group →
      IsWork (record { seen = with_histories w.seen new; room = w.room; burndown = b })

-- an issue that may be the next one: the next change group makes it
pub record MayCome (w : TrackedWork) (h : History) : Type 0 where
  pub few : length w.seen.histories < most_issues
  pub number : h.change ≡ w.seen.change + 1
  pub bare : h.entries ≡ []
  pub points : ArePoints (share_now w.seen h).points
  pub room : HasRoomFor w (share_now w.seen h).sprint

-- the last of these histories is that of such an issue, and there is no other new one
pub record ComesLast (w : TrackedWork) (new : List History) : Type 0 where
  pub issue : History
  pub may : MayCome w issue
  pub last : new ≡ w.seen.histories ++ issue ∷ []

-- entries of the next change group, which an issue may get at this moment, where it counted for so much before
pub record MayGet (w : TrackedWork) (h : History) (before : Share) (at : ℕ) (author : UserNo)
    (entries : List Entry) : Type 0 where
  pub group : MayAdd h (w.seen.change + 1) at author entries
  pub before_is : before ≡ share_now w.seen h
  pub points : ArePoints (share_now w.seen (with_entries h entries)).points
  pub room_before : HasRoomFor w before.sprint
  pub room_after : HasRoomFor w (share_now w.seen (with_entries h entries)).sprint

-- the history at this place has got such entries, and all others stand
pub record GrowsAt (w : TrackedWork) (place : ℕ) (before : Share) (at : ℕ)
    (new : List History) : Type 0 where
  pub issue : History
  pub author : UserNo
  pub entries : List Entry
  pub there : slice_get w.seen.histories place ≡ Some issue
  pub may : MayGet w issue before at author entries
  pub grown : new ≡ slice_set w.seen.histories place (with_entries issue entries)
