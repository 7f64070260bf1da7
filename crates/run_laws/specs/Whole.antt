-- A run of `exec` in which nothing outside failed.
use Rattle.std.specs.Prelude.{◌≡◌, ◌⊎◌, ◌++◌, ℕ, List, [], ◌∷◌, Option, Some}
use Rattle.std.specs.Io.KnownBytes.{Appends}
use Rattle.request_lines.specs.Causes.{Rose}
use Rattle.request_lines.specs.Lines.{lines, AreWithinLimits}
use Rattle.tracker_calls.specs.declared.reply.Reply.TheVariants as reply
use Rattle.tracker_calls.specs.declared.reply.Refusal.TheVariants as refusal
use Rattle.call_lines.specs.Asked.{line_of}
use Rattle.tracker_keeper.specs.Rows.{Rows}
use Rattle.tracker_machine.specs.Machine.{Machine}
use Rattle.tracker_runs.specs.Run.{asked_reply, asked_next, reply_line, requests}
use Rattle.tracker_core.specs.Desk.{IsOpened}
use Rattle.tracker_cli.specs.Outcome.{IsExec}

-- no count of faults rose, and none stands at its last value
pub record NoneFailed (reads_before reads_now writes_before writes_now keeps_before keeps_now : ℕ)
    : Type 0 where
  pub read : ¬ (Rose reads_before reads_now)
  pub written : ¬ (Rose writes_before writes_now)
  pub kept : ¬ (Rose keeps_before keeps_now)

-- each line has the abstract tracker's own reply, or that there was not enough memory, which leaves the tracker; this text is all of
-- them, and this the tracker behind them
abbrev pub AreAnswered : Machine → List (List ℕ) → List ℕ → Machine → Type 0
AreAnswered m [] text last = (text ≡ []) × (last ≡ m)
AreAnswered m (line ∷ more) text last =
    ((rest : List ℕ) × (text ≡ reply_line (asked_reply m (line_of line)) ++ rest)
    × AreAnswered (asked_next m (line_of line)) more rest last)
    ⊎ ((rest : List ℕ) × (text ≡ reply_line (reply.Refused refusal.Memory) ++ rest)
    × AreAnswered m more rest last)

-- the sink grew by the answers to all of these lines
abbrev pub AllAreAnswered : Machine → List (List ℕ) → Option (List ℕ) → Option (List ℕ) → Type 0
AllAreAnswered m all old new =
    (text : List ℕ) × (last : Machine) × AreAnswered m all text last × Appends old new text

-- Where nothing outside failed, the input is within the limits, and the keeper's rows are a tracker's or none, all lines were answered;
-- or memory lacked. There is no other end.
abbrev pub EndsWhole : (Rows → Type 0) → Type 0 → List ℕ → List (List ℕ) → ℕ → Option (List ℕ)
    → Option (List ℕ) → Option (List ℕ) → Type 0
EndsWhole Have Unfailing setup_text words status left old new =
    (input : List ℕ) (rows : Rows) (m : Machine) → IsExec words → left ≡ Some input
    → AreWithinLimits (lines input) → Have rows → IsOpened setup_text rows m → Unfailing
    → (status ≡ 6) ⊎ ((status ≡ 0) × AllAreAnswered m (requests (lines input)) old new)
