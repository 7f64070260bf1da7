-- What is left of a run over files.
use Rattle.std.proofs.Common.{◌≡◌, ℕ, List, inl, inr, Option, sym, subst}
use Rattle.std.proofs.Math.Logic.{∥∥₁_map}
use Rattle.std.specs.Prelude.{◌⊎◌}
use Rattle.sqlite_wal.specs.Recovery.{Image}
use Rattle.tracker_keeper.specs.Rows.{Rows}
use Rattle.keeper_told.specs.Reopening.{HoldsTold}
use Rattle.call_lines.specs.Asked.{line_of}
use Rattle.tracker_machine.specs.Machine.{Machine}
use Rattle.tracker_machine.specs.Kept.{rows_of}
use Rattle.tracker_runs.specs.Run.{requests, asked_next, IsRun, IsCutRun}
use Rattle.tracker_machine.specs.Tracker.{IsTracker}
use Rattle.tracker_core.specs.Desk.{IsOpened, IsBadIn, HasBadRow}
use Rattle.tracker_core.specs.Left.{LeavesOpened}
use Rattle.tracker_cli.specs.Answering.{IsWithLine}
use Rattle.tracker_cli.specs.Outcome.{BeginsIn, HasRowsBehind, StaysUnopened, IsExec, AreRepliesOf, AreCutRepliesOf, LinesEnd}
use Rattle.file_runs.specs.Runs.{HoldsTracker, LeavesTracker, LeavesItsRows, LeavesIt, RunEnds}
use Rattle.file_runs.proofs.Setups.{HasSetup, setup_line, setup_run, setup_cut, setup_opened}
use Rattle.file_runs.proofs.Opened.{opened_is, none_bad}
use Rattle.file_runs.proofs.Ends.{ends_again, replies_again, cuts_again}

module _ {P : Type 0} (keeps : P → Rows → Type 0) (tells : P → Type 0) (faults : P → ℕ) (leaves : P → Rows → Rows → Type 0) (may_leave : Image → Type 0) (setup_text : List ℕ)
    (first last : P) (rows : Rows) (has : keeps first rows) (left : leaves first rows rows) (told : tells last)
    (ended : (one other : Rows) → leaves last one other → (image : Image) → may_leave image → ∥ (HoldsTold image one ⊎ HoldsTold image other) ∥₁) where
  holds : (m : Machine) (image : Image) → IsTracker m → HasSetup m → HoldsTold image (rows_of m) → HoldsTracker image m
  holds m image tracker setup held = record { tracker = tracker; setup = setup; held = held }

  with_line : (all : List (List ℕ)) (m later : Machine) → IsWithLine all m later → HasSetup m → HasSetup later
  with_line all m later one setup = subst HasSetup (sym one.2) (setup_line m one.0 setup)

  later_held : (all : List (List ℕ)) (m later : Machine) (image : Image) → IsTracker later → HasSetup m → (later ≡ m) ⊎ IsWithLine all m later → HoldsTold image (rows_of later)
      → HoldsTracker image m ⊎ ((then : Machine) × IsWithLine all m then × HoldsTracker image then)
  later_held all m later image tracker setup (inl same) held =
      inl (subst (HoldsTracker image) same (holds later image tracker (subst HasSetup (sym same) setup) held))
  later_held all m later image tracker setup (inr one) held = inr (later, one, holds later image tracker (with_line all m later one setup) held)

  leaves_tracker : (m : Machine) (all : List (List ℕ)) (failures : ℕ) → HasSetup m → HasRowsBehind keeps tells faults leaves first last all m failures → LeavesTracker may_leave all m failures
  leaves_tracker m all failures setup behind image may =
      let it = behind.left rows has left told in
      ∥∥₁_map (ended (rows_of m) (rows_of it.0) it.3 image may) (λ e. elim e [
        | inl one ↦ inl (holds m image behind.tracker setup one)
        | inr other ↦ later_held all m it.0 image it.1 setup it.2 other
      ])

  unopened_by : LeavesOpened leaves setup_text last rows → LeavesItsRows may_leave setup_text rows
  unopened_by (inl same) image may = ∥∥₁_map (ended rows rows same image may) (λ e. elim e [ inl one ↦ inl one | inr other ↦ inl other ])
  unopened_by (inr (m, opened, begun)) image may =
      ∥∥₁_map (ended rows (rows_of m) begun image may) (λ e. elim e [ inl one ↦ inl one | inr other ↦ inr (m, opened, other) ])

  unopened : StaysUnopened keeps tells leaves setup_text first last → LeavesItsRows may_leave setup_text rows
  unopened stays = unopened_by (stays.left rows has left told)

  bad_in : (kind number : ℕ) → HasBadRow keeps tells first last kind number → IsBadIn rows kind number
  bad_in kind number bad = bad rows has told

  begins : (start : Machine) → BeginsIn keeps tells setup_text first last start → IsOpened setup_text rows start
  begins start opened = opened rows has told

  behind_run : (start m : Machine) (all : List (List ℕ)) (text : List ℕ) (failures : ℕ) → BeginsIn keeps tells setup_text first last start
      → IsRun start (requests all) text m failures → HasRowsBehind keeps tells faults leaves first last all m failures → LeavesTracker may_leave all m failures
  behind_run start m all text failures opened run behind =
      leaves_tracker m all failures (setup_run start m (requests all) text failures run (setup_opened setup_text rows start (begins start opened))) behind

  behind_cut : (start m : Machine) (all : List (List ℕ)) (text : List ℕ) (failures : ℕ) → BeginsIn keeps tells setup_text first last start
      → IsCutRun start all text m failures → HasRowsBehind keeps tells faults leaves first last all m failures → LeavesTracker may_leave all m failures
  behind_cut start m all text failures opened run behind =
      leaves_tracker m all failures (setup_cut start m all text failures run (setup_opened setup_text rows start (begins start opened))) behind

  module _ (words : List (List ℕ)) (status : ℕ) (input after t u : Option (List ℕ))
      (ends : LinesEnd
      (AreRepliesOf (BeginsIn keeps tells setup_text first last) (HasRowsBehind keeps tells faults leaves first last) words)
      (AreCutRepliesOf (BeginsIn keeps tells setup_text first last) (HasRowsBehind keeps tells faults leaves first last)
      (StaysUnopened keeps tells leaves setup_text first last) words)
      (IsExec words) (StaysUnopened keeps tells leaves setup_text first last) (HasBadRow keeps tells first last) status input after t u) where
    -- from rows
    pub run_ends : RunEnds may_leave (IsOpened setup_text rows) (LeavesItsRows may_leave setup_text rows) (IsBadIn rows) words status input after t u
    run_ends =
        ends_again _ _ _ _ (IsExec words) _ _ _ _ status input after t u
        (replies_again _ _ _ _ (StaysUnopened keeps tells leaves setup_text first last) (LeavesItsRows may_leave setup_text rows) words begins behind_run behind_cut unopened)
        (cuts_again _ _ _ _ (StaysUnopened keeps tells leaves setup_text first last) (LeavesItsRows may_leave setup_text rows) words begins behind_run behind_cut unopened)
        unopened bad_in ends

-- from a tracker
module _ (may_leave : Image → Type 0) (setup_text : List ℕ) (m : Machine) (tracker : IsTracker m) (setup : HasSetup m) (words : List (List ℕ)) (status : ℕ)
    (input after t u : Option (List ℕ)) where
  leaves_it : LeavesItsRows may_leave setup_text (rows_of m) → LeavesIt may_leave m
  leaves_it left image may = ∥∥₁_map (left image may) (λ e. elim e [
    | inl same ↦ record { tracker = tracker; setup = setup; held = same }
    | inr opened ↦ record {
      tracker = tracker;
      setup = setup;
      held = subst (λ n. HoldsTold image (rows_of n)) (opened_is setup_text m opened.0 tracker setup opened.1) opened.2;
    }
  ])

  pub run_ends_again : RunEnds may_leave (IsOpened setup_text (rows_of m)) (LeavesItsRows may_leave setup_text (rows_of m)) (IsBadIn (rows_of m)) words status input after t u
      → RunEnds may_leave (λ start. start ≡ m) (LeavesIt may_leave m) (λ kind number. ⊥) words status input after t u
  run_ends_again ends =
      ends_again _ _ _ _ (IsExec words) _ _ _ _ status input after t u
      (replies_again (IsOpened setup_text (rows_of m)) (λ start. start ≡ m) (LeavesTracker may_leave) (LeavesTracker may_leave) (LeavesItsRows may_leave setup_text (rows_of m)) (LeavesIt may_leave m) words (λ start opened. opened_is setup_text m start tracker setup opened)
      (λ start last all text failures begins run kept. kept) (λ start last all text failures begins run kept. kept) leaves_it)
      (cuts_again (IsOpened setup_text (rows_of m)) (λ start. start ≡ m) (LeavesTracker may_leave) (LeavesTracker may_leave) (LeavesItsRows may_leave setup_text (rows_of m)) (LeavesIt may_leave m) words (λ start opened. opened_is setup_text m start tracker setup opened)
      (λ start last all text failures begins run kept. kept) (λ start last all text failures begins run kept. kept) leaves_it)
      leaves_it (λ kind number bad. none_bad m kind number tracker setup bad) ends
