-- What a burndown may be told next, so that it stays that of the histories and of the sprints' states.
use Rattle.std.specs.Prelude.{ℕ, suc, ◌≡◌, ◌≢◌, ◌<◌, ◌≤◌, ◌^◌, ℤ, pos, neg_ℤ, ◌≤ℤ◌, List, [], ◌∷◌, length, Some, None, IfSome, slice_get, All}
use Rattle.field_values.specs.declared.numbers.FieldNo.{FieldNo}
use Rattle.field_values.specs.declared.value.Value.{Value}
use Rattle.tracker_limits.specs.Limits.{most_issues}
use Rattle.change_history.specs.History.{History}
use Rattle.sprints.specs.declared.state.SprintState.{SprintState}
use Rattle.sprints.specs.declared.state.SprintState.TheVariants.{Future, Active, Closed}
use Rattle.burndown.specs.declared.share.Share.{Share}
use Rattle.burndown.specs.declared.group.Group.{Group}
use Rattle.burndown.specs.declared.progress.Stage.TheVariants.{Ahead}
use Rattle.burndown.specs.Course.{IsRunning, begun, ended}
use Rattle.burndown.specs.Tracked.{TrackedSprint}
use Rattle.burndown.specs.Burndown.{course_of, FitsAfter, ChangesOnly, TellsGroup}
use Rattle.burndown.specs.Event.{Event, Changes, Begins, Ends}
use Rattle.burndown.specs.AfterGroup.{share_then, moment_in, group_numbered}
use Rattle.burndown.specs.Chart.{IsBurndownOf}

-- no group has a number after `low` and up to `high`
abbrev pub HaveNoneBetween : List History → ℕ → ℕ → Type 0
HaveNoneBetween hs low high = (n : ℕ) → low < n → n ≤ high → group_numbered hs n ≡ None

-- each group has a number up to `high`
abbrev pub HaveNumbersUpTo : ℕ → List History → Type 0
HaveNumbersUpTo high hs = All (λ h. (h.change ≤ high) × All (λ e. e.change ≤ high) h.entries) hs

-- group n, of that moment, is one of the issue at that place, and of no other issue
pub record IsGroupAt (hs : List History) (place : ℕ) (h : History) (n at : ℕ) : Type 0 where
  pub there : slice_get hs place ≡ Some h
  pub made : moment_in h n ≡ Some at
  pub alone : (other : ℕ) (o : History) → slice_get hs other ≡ Some o → other ≢ place
      → moment_in o n ≡ None

-- a group of the histories, with the shares that its issue had before and after it
pub record IsGroupOf (reading : (FieldNo → Value) → Share) (hs : List History)
    (group : Group) : Type 0 where
  pub place : ℕ
  pub issue : History
  pub number : ℕ
  pub is_at : IsGroupAt hs place issue (suc number) group.at
  pub change_is : group.change ≡ suc number
  pub issue_is : group.issue ≡ issue.no
  pub before_is : group.before ≡ share_then reading issue number
  pub after_is : share_then reading issue (suc number) ≡ Some group.after

-- no more issues than a tracker holds
abbrev pub AreFew : List History → Type 0
AreFew hs = length hs ≤ most_issues

-- at most 10^12 thousandths of points, either way
abbrev pub ArePoints : ℤ → Type 0
ArePoints x = (neg_ℤ (pos (10 ^ 12)) ≤ℤ x) × (x ≤ℤ pos (10 ^ 12))

-- whenever an issue had a share, its points were no more than that
abbrev pub HavePoints : ((FieldNo → Value) → Share) → List History → Type 0
HavePoints reading hs =
    All (λ h. (n : ℕ) → IfSome (share_then reading h n) (λ share. ArePoints share.points)) hs

-- a burndown may be told of a group: each total stays in range, and then it is that of these histories up to number `now`
pub record MayBeTold (reading : (FieldNo → Value) → Share) (hs : List History)
    (states : ℕ → SprintState) (now : ℕ) (b : List TrackedSprint) (group : Group) : Type 0 where
  pub fits : AreFew hs → HavePoints reading hs → (s : ℕ) → FitsAfter b s group
  pub told : (new : List TrackedSprint) → TellsGroup b new group
      → IsBurndownOf reading hs states now new

-- one sprint goes to another state
pub record GoesTo (old new : ℕ → SprintState) (s : ℕ) (state : SprintState) : Type 0 where
  pub this : new s ≡ state
  pub others : (q : ℕ) → q ≢ s → new q ≡ old q

-- a future sprint becomes active after group `now`
pub record Starts (old new : ℕ → SprintState) (s now : ℕ) : Type 0 where
  pub moment : ℕ
  pub was : old s ≡ Future
  pub goes : GoesTo old new s (Active moment now)

-- an active sprint becomes closed after group `now`
pub record Closes (old new : ℕ → SprintState) (s now : ℕ) : Type 0 where
  pub moment : ℕ
  pub start_moment : ℕ
  pub start_change : ℕ
  pub was : old s ≡ Active start_moment start_change
  pub goes : GoesTo old new s (Closed start_moment start_change moment now)

-- a burndown may begin a sprint, and then it is that of the new states
pub record MayBegin (reading : (FieldNo → Value) → Share) (hs : List History)
    (states : ℕ → SprintState) (now : ℕ) (b : List TrackedSprint) (s : ℕ) : Type 0 where
  pub ahead : (course_of b s).stage ≡ Ahead
  pub begins : (new : List TrackedSprint) → ChangesOnly b new s (begun (course_of b s))
      → IsBurndownOf reading hs states now new

-- a burndown may end a sprint, and then it is that of the new states
pub record MayEnd (reading : (FieldNo → Value) → Share) (hs : List History)
    (states : ℕ → SprintState) (now : ℕ) (b : List TrackedSprint) (s : ℕ) : Type 0 where
  pub running : IsRunning (course_of b s).stage
  pub ends : (new : List TrackedSprint) → ChangesOnly b new s (ended (course_of b s))
      → IsBurndownOf reading hs states now new

-- These events, the latest first, tell the groups of the histories up to number `now`, each once and by rising numbers, and between them
-- the starts and closes that led to the sprints' states, each behind just the groups up to its number.
abbrev pub AreTold : ((FieldNo → Value) → Share) → List History → List Event → (ℕ → SprintState) → ℕ
    → Type 0
AreTold reading hs [] states now = HaveNoneBetween hs 0 now × ((s : ℕ) → states s ≡ Future)
AreTold reading hs (Changes group ∷ past) states now =
    (group.change ≤ now) × HaveNoneBetween hs group.change now
    × (is : IsGroupOf reading hs group) × AreTold reading hs past states is.number
AreTold reading hs (Begins s ∷ past) states now =
    (number : ℕ) × (before : ℕ → SprintState) × (number ≤ now) × HaveNoneBetween hs number now
    × Starts before states s number × AreTold reading hs past before number
AreTold reading hs (Ends s ∷ past) states now =
    (number : ℕ) × (before : ℕ → SprintState) × (number ≤ now) × HaveNoneBetween hs number now
    × Closes before states s number × AreTold reading hs past before number
