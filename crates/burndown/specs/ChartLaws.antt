-- What keeps a burndown that of the histories and of the sprints' states.
use Rattle.std.specs.Prelude.{ℕ, ◌≡◌, ◌<◌, ◌≤◌, ◌+◌, List, [], ◌∷◌, ◌++◌, Some, None, slice_get, slice_set, All}
use Rattle.field_values.specs.declared.numbers.UserNo.{UserNo}
use Rattle.field_values.specs.declared.numbers.FieldNo.{FieldNo}
use Rattle.field_values.specs.declared.value.Value.{Value}
use Rattle.change_history.specs.declared.entry.Entry.{Entry}
use Rattle.change_history.specs.History.{History, present, MayAdd}
use Rattle.sprints.specs.declared.state.SprintState.{SprintState}
use Rattle.sprints.specs.declared.state.SprintState.TheVariants.{Future}
use Rattle.burndown.specs.declared.share.Share.{Share}
use Rattle.burndown.specs.declared.group.Group.{Group}
use Rattle.burndown.specs.Group.{group_of}
use Rattle.burndown.specs.Course.{IsTotal, Course, start_of, untold}
use Rattle.burndown.specs.Tracked.{TrackedSprint}
use Rattle.burndown.specs.Burndown.{course_of, GrowsInRoom}
use Rattle.burndown.specs.Event.{Event, IsAfter}
use Rattle.burndown.specs.AfterGroup.{remaining_then}
use Rattle.burndown.specs.Chart.{start_by, left_by, rows_by, IsBurndownOf}
use Rattle.burndown.specs.Told.{HaveNoneBetween, HaveNumbersUpTo, IsGroupOf, AreFew, HavePoints, MayBeTold, Starts, Closes, MayBegin, MayEnd, AreTold}

-- a sprint's course is what the histories say by numbers of groups
pub record IsChartOf (reading : (FieldNo → Value) → Share) (hs : List History) (s : ℕ)
    (state : SprintState) (now : ℕ) (c : Course) : Type 0 where
  pub left : c.total ≡ left_by reading hs s state now
  pub start : start_of c ≡ start_by reading hs s state now
  pub rows : c.rows ≡ rows_by reading hs s state now

abbrev pub ChartsAreOfHistories : Type 0
ChartsAreOfHistories =
    (reading : (FieldNo → Value) → Share) (hs : List History) (states : ℕ → SprintState) (now : ℕ)
    (b : List TrackedSprint) →
    IsBurndownOf reading hs states now b →
    (s : ℕ) → IsChartOf reading hs s (states s) now (course_of b s)

-- a future sprint has no rows
abbrev pub FutureHasNoRows : Type 0
FutureHasNoRows =
    (reading : (FieldNo → Value) → Share) (hs : List History) (s now : ℕ)
    → rows_by reading hs s Future now ≡ []

-- whatever was told in order, a burndown is that of the histories and of the states
abbrev pub ToldInOrder : Type 0
ToldInOrder =
    (reading : (FieldNo → Value) → Share) (hs : List History) (events : List Event)
    (states : ℕ → SprintState) (now : ℕ) (b : List TrackedSprint) →
    All (λ h. 0 < h.change) hs → IsAfter events b → AreTold reading hs events states now →
    IsBurndownOf reading hs states now b

-- nothing was told of all groups up to number 0, and all sprints are future
abbrev pub NothingTold : Type 0
NothingTold =
    (reading : (FieldNo → Value) → Share) (hs : List History) (states : ℕ → SprintState)
    (b : List TrackedSprint) →
    All (λ h. 0 < h.change) hs → ((s : ℕ) → states s ≡ Future)
    → ((s : ℕ) → course_of b s ≡ untold) →
    IsBurndownOf reading hs states 0 b

-- numbers that no group has pass by
abbrev pub NumbersPass : Type 0
NumbersPass =
    (reading : (FieldNo → Value) → Share) (hs : List History) (states : ℕ → SprintState)
    (now next : ℕ) (b : List TrackedSprint) →
    IsBurndownOf reading hs states now b → now ≤ next → HaveNoneBetween hs now next →
    IsBurndownOf reading hs states next b

-- the next of all groups may be told, where each before it was
abbrev pub NextMayBeTold : Type 0
NextMayBeTold =
    (reading : (FieldNo → Value) → Share) (hs : List History) (states : ℕ → SprintState)
    (b : List TrackedSprint) (group : Group) (is : IsGroupOf reading hs group) →
    IsBurndownOf reading hs states is.number b →
    MayBeTold reading hs states group.change b group

-- a new issue may be told
abbrev pub CreationMayBeTold : Type 0
CreationMayBeTold =
    (reading : (FieldNo → Value) → Share) (hs : List History) (states : ℕ → SprintState) (now : ℕ)
    (b : List TrackedSprint) (h : History) →
    IsBurndownOf reading hs states now b → HaveNumbersUpTo now hs → h.change ≡ now + 1
    → h.entries ≡ [] →
    MayBeTold reading (hs ++ h ∷ []) states (now + 1) b
    (group_of (now + 1) h.at h.no None (reading (present h)))

-- the history with a further group
abbrev pub with_entries : History → List Entry → History
with_entries h entries = record h { entries = h.entries ++ entries }

-- a group that is added to a history may be told
abbrev pub AdditionMayBeTold : Type 0
AdditionMayBeTold =
    (reading : (FieldNo → Value) → Share) (hs : List History) (states : ℕ → SprintState) (now : ℕ)
    (b : List TrackedSprint)
    (place : ℕ) (h : History) (at : ℕ) (author : UserNo) (entries : List Entry) →
    IsBurndownOf reading hs states now b → HaveNumbersUpTo now hs → slice_get hs place ≡ Some h
    → MayAdd h (now + 1) at author entries →
    let after = with_entries h entries in
    MayBeTold reading (slice_set hs place after) states (now + 1) b
    (group_of (now + 1) at h.no (Some (reading (present h))) (reading (present after)))

abbrev pub StartMayBegin : Type 0
StartMayBegin =
    (reading : (FieldNo → Value) → Share) (hs : List History) (old new : ℕ → SprintState) (now : ℕ)
    (b : List TrackedSprint) (s : ℕ) →
    IsBurndownOf reading hs old now b → Starts old new s now → MayBegin reading hs new now b s

abbrev pub CloseMayEnd : Type 0
CloseMayEnd =
    (reading : (FieldNo → Value) → Share) (hs : List History) (old new : ℕ → SprintState) (now : ℕ)
    (b : List TrackedSprint) (s : ℕ) →
    IsBurndownOf reading hs old now b → Closes old new s now → MayEnd reading hs new now b s

-- room that is made changes nothing of this
abbrev pub RoomStaysApart : Type 0
RoomStaysApart =
    (reading : (FieldNo → Value) → Share) (hs : List History) (states : ℕ → SprintState) (now : ℕ)
    (old new : List TrackedSprint) →
    IsBurndownOf reading hs states now old → GrowsInRoom old new
    → IsBurndownOf reading hs states now new

-- what remains of as many issues as a tracker holds, of at most 10^12 thousandths is always in the range of totals
abbrev pub TotalsFit : Type 0
TotalsFit =
    (reading : (FieldNo → Value) → Share) (hs : List History) → AreFew hs → HavePoints reading hs →
    (s n : ℕ) → IsTotal (remaining_then reading hs s n)
