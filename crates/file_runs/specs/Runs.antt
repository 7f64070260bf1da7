-- Runs over the files at a path, one after another: what a run begins in, and what may be found of it by the next.
use Rattle.std.specs.Prelude.{◌≡◌, ◌⊎◌, ℕ, List, [], Option}
use Rattle.sqlite_wal.specs.Recovery.{Image}
use Rattle.tracker_keeper.specs.Rows.{Rows, no_rows}
use Rattle.keeper_told.specs.Reopening.{HoldsTold}
use Rattle.tracker_machine.specs.Machine.{Machine}
use Rattle.tracker_machine.specs.Kept.{rows_of}
use Rattle.tracker_machine.specs.Members.{IsSetupOf}
use Rattle.tracker_machine.specs.Tracker.{IsTracker}
use Rattle.tracker_core.specs.Desk.{IsOpened}
use Rattle.tracker_cli.specs.Answering.{IsWithLine}
use Rattle.tracker_cli.specs.Outcome.{IsExec, AreRepliesOf, AreCutRepliesOf, LinesEnd}

-- ---- files

-- the files begin with these rows: they hold them; or there is no file yet, or an empty one, and so no row
abbrev pub BeginsWith : Image → Rows → Type 0
BeginsWith image rows = HoldsTold image rows ⊎ ((image.db ≡ []) × (rows ≡ no_rows))

-- the files hold this tracker: they hold its rows, of which just it is loaded
pub record HoldsTracker (image : Image) (m : Machine) : Type 0 where
  pub tracker : IsTracker m
  pub setup : IsSetupOf m.text m.setup
  pub held : HoldsTold image (rows_of m)

-- ---- what may be found

-- whatever may be found of the files holds this tracker, or the tracker with one more of these lines
abbrev pub LeavesTracker : (Image → Type 0) → List (List ℕ) → Machine → ℕ → Type 0
LeavesTracker may_leave lines m failures =
    (image : Image) → may_leave image
    → ∥ (HoldsTracker image m
    ⊎ ((later : Machine) × IsWithLine lines m later × HoldsTracker image later)) ∥₁

-- whatever may be found holds these rows still, or those of the tracker that they make
abbrev pub LeavesItsRows : (Image → Type 0) → List ℕ → Rows → Type 0
LeavesItsRows may_leave setup_text rows =
    (image : Image) → may_leave image
    → ∥ (HoldsTold image rows
    ⊎ ((m : Machine) × IsOpened setup_text rows m × HoldsTold image (rows_of m))) ∥₁

-- whatever may be found holds this tracker still
abbrev pub LeavesIt : (Image → Type 0) → Machine → Type 0
LeavesIt may_leave m = (image : Image) → may_leave image → ∥ HoldsTracker image m ∥₁

-- ---- a run

-- the lines of an input are answered, from the tracker that the run begins in, under some marks; whatever may be found then holds the
-- tracker behind the answers, or that with one line more. `Unopened` says what it is where no line was answered, and `Bad` which
-- row is told as the first bad one
abbrev pub RunEnds : (Image → Type 0) → (Machine → Type 0) → Type 0 → (ℕ → ℕ → Type 0)
    → List (List ℕ) → ℕ → Option (List ℕ) → Option (List ℕ) → Option (List ℕ) → Option (List ℕ)
    → Type 0
RunEnds may_leave Begins Unopened Bad words status left after old new =
    LinesEnd (AreRepliesOf Begins (LeavesTracker may_leave) words)
    (AreCutRepliesOf Begins (LeavesTracker may_leave) Unopened words) (IsExec words) Unopened Bad
    status left after old new
