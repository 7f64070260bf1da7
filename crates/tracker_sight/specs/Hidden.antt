-- What happens to issues that a user may not browse doesn't show to the user.
use Rattle.std.specs.Prelude.{◌≡◌, ℕ, false, List, [], ◌∷◌, slice_get, Some, Result, Ok, Err}
use Rattle.change_history.specs.History.{History}
use Rattle.tracker_calls.specs.declared.call.Call.{Call}
use Rattle.tracker_calls.specs.declared.cause.Cause.{Cause}
use Rattle.call_lines.specs.Asked.{line_of}
use Rattle.tracker_machine.specs.Machine.{Machine}
use Rattle.tracker_machine.specs.Tracker.{HasRanks}
use Rattle.tracker_machine.specs.Effect.{Effect}
use Rattle.tracker_machine.specs.Effect.Effect.{NewIssue, NewGroup, NewRank, NewBalance, NewRanks}
use Rattle.tracker_machine.specs.Meaning.{Meaning}
use Rattle.tracker_machine.specs.Meaning.Meaning.{Makes}
use Rattle.tracker_machine.specs.Step.{meaning}
use Rattle.tracker_runs.specs.Run.{Mark, plain, memory, keeper, Marked, marked_next, end_of_run}
use Rattle.tracker_sight.specs.Sight.{SeemAlike, sees}

-- the issue at a place is one that the user may not browse
pub record IsHiddenAt (m : Machine) (user place : ℕ) : Type 0 where
  pub issue : History
  pub there : slice_get m.histories place ≡ Some issue
  pub hidden : sees m.setup user issue ≡ false

-- so is the issue of a number
pub record IsHiddenOf (m : Machine) (user number : ℕ) : Type 0 where
  pub place : ℕ
  pub issue : History
  pub there : slice_get m.histories place ≡ Some issue
  pub no : issue.no.0 ≡ number
  pub hidden : sees m.setup user issue ≡ false

-- an effect creates, changes or moves an issue that the user may not browse, or is the start or a step of a rebalancing
abbrev pub IsHidden : Machine → ℕ → Effect → Type 0
IsHidden m user (NewIssue h rank external) = sees m.setup user h ≡ false
IsHidden m user (NewGroup place group) = IsHiddenAt m user place
IsHidden m user (NewRank issue rank) = IsHiddenOf m user issue.0
IsHidden m user (NewBalance balance) = Unit {0}
IsHidden m user (NewRanks moves) = Unit {0}
IsHidden m user _ = ⊥

-- what a call means does that, or nothing
abbrev pub DoesHidden : Machine → ℕ → Meaning → Type 0
DoesHidden m user (Makes a effect) = IsHidden m user effect
DoesHidden m user _ = Unit {0}

-- so does what a line asks for; one that can't be read does nothing
abbrev pub AsksForHidden : Machine → ℕ → Result (List ℕ × Call) Cause → Type 0
AsksForHidden m user (Ok asked) = DoesHidden m user (meaning m asked.0 asked.1)
AsksForHidden m user (Err r) = Unit {0}

-- so does a line; a marked one does nothing
abbrev pub LineDoesHidden : Machine → ℕ → List ℕ → Mark → Type 0
LineDoesHidden m user line plain = AsksForHidden m user (line_of line)
LineDoesHidden m user line memory = Unit {0}
LineDoesHidden m user line keeper = Unit {0}

-- so does each of the lines in turn
abbrev pub AllDoHidden : ℕ → Machine → List Marked → Type 0
AllDoHidden user m [] = Unit {0}
AllDoHidden user m (x ∷ xs) =
    LineDoesHidden m user x.line x.mark × AllDoHidden user (marked_next m x.line x.mark) xs

-- after such lines, whosever they are, the tracker seems alike to the user as before
abbrev pub HiddenChangesDontShow : Type 0
HiddenChangesDontShow =
    (m : Machine) (user : ℕ) (lines : List Marked) → HasRanks m → AllDoHidden user m lines
    → SeemAlike user m (end_of_run m lines)
