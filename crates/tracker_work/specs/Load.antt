-- What a burndown may be made from.
use Rattle.std.specs.Prelude.{ℕ, ◌≡◌, ◌≢◌, ◌<◌, List, slice_get, Some, None, All}
use Rattle.change_history.specs.History.{History, IsHistory}
use Rattle.burndown.specs.AfterGroup.{moment_in}
use Rattle.burndown.specs.Chart.{IsPast}
use Rattle.burndown.specs.Told.{HaveNumbersUpTo, AreFew, HavePoints, IsGroupOf}
use Rattle.tracker_work.specs.declared.told.Told.{Told}
use Rattle.tracker_work.specs.Seen.{Seen, reading_of, state_in}
use Rattle.tracker_work.specs.States.{ClosesAfterStart}
use Rattle.tracker_work.specs.Told.{group}

-- no number is that of groups of two issues
abbrev pub AreApart : List History → Type 0
AreApart hs =
    (i j n at : ℕ) (h o : History) → slice_get hs i ≡ Some h → slice_get hs j ≡ Some o → j ≢ i
    → moment_in h n ≡ Some at →
    moment_in o n ≡ None

-- what a tracker keeps: each history is one, and its groups have numbers from 1 up to the last one, which no other issue has; the issues
-- and their points are so few that every total fits; and no sprint started or closed after a later group, or closed before it started
pub record MayBeLoaded (seen : Seen) : Type 0 where
  pub histories : All IsHistory seen.histories
  pub first : All (λ h. 0 < h.change) seen.histories
  pub numbers : HaveNumbersUpTo seen.change seen.histories
  pub apart : AreApart seen.histories
  pub few : AreFew seen.histories
  pub points : HavePoints (reading_of seen) seen.histories
  pub past : (s : ℕ) → IsPast seen.change (state_in seen.sprints s)
  pub closes : (s : ℕ) → ClosesAfterStart (state_in seen.sprints s)

-- a group of these histories, as a burndown is told of it
abbrev pub IsTold : Seen → Told → Type 0
IsTold seen t = IsGroupOf (reading_of seen) seen.histories (group t)
