-- Two runs of `exec` over keepers that have the same rows.
use Rattle.std.specs.Prelude.{◌≡◌, ℕ, List, [], Option, Some}
use Rattle.request_lines.specs.Lines.{lines}
use Rattle.tracker_keeper.specs.Rows.{Rows}
use Rattle.tracker_machine.specs.Machine.{Machine}
use Rattle.tracker_runs.specs.Run.{requests}
use Rattle.tracker_core.specs.Desk.{IsOpened}
use Rattle.tracker_cli.specs.Outcome.{IsExec}
use Rattle.tracker_sight.specs.Outputs.{lines_told, DifferInHidden, TellNoFault}

-- a run of `exec` was done: its status is 0, this is all of its input, and this all of its output, in which no line tells a fault
pub record IsDone (words : List (List ℕ)) (status : ℕ) (left old new : Option (List ℕ))
    (input output : List ℕ) : Type 0 where
  pub exec : IsExec words
  pub done : status ≡ 0
  pub input_is : left ≡ Some input
  pub before : old ≡ Some []
  pub output_is : new ≡ Some output
  pub well : TellNoFault (lines output)

-- a keeper had these rows, and tells them
pub record Had {P : Type 0} (keeps : P → Rows → Type 0) (tells : P → Type 0) (old new : P)
    (rows : Rows) : Type 0 where
  pub kept : keeps old rows
  pub told : tells new

-- Of the inputs of two runs from the rows of one tracker that differ in what is hidden from a user alone, both outputs tell the
-- user the same bytes.
abbrev pub TellTheSame : (List ℕ → List ℕ → Type 0) → (List ℕ → List ℕ → Type 0) → (Rows → Type 0)
    → (Rows → Type 0) → List ℕ → Type 0
TellTheSame Done OtherDone Have OtherHave setup_text =
    (user input output other other_output : List ℕ) (rows : Rows) (m : Machine)
    → Done input output → OtherDone other other_output → Have rows → OtherHave rows
    → IsOpened setup_text rows m → DifferInHidden user m input other
    → lines_told user (requests (lines other)) (lines other_output)
    ≡ lines_told user (requests (lines input)) (lines output)
