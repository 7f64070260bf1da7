-- What a user is told by the bytes of an output: the lines of the replies to the user's own requests.
use Rattle.std.specs.Prelude.{◌≡◌, ◌≢◌, ℕ, List, [], ◌∷◌, map, filter, if◌then◌else◌}
use Rattle.request_lines.specs.Lines.{lines}
use Rattle.tracker_calls.specs.declared.reply.Refusal.TheVariants as refusal
use Rattle.tracker_calls.specs.declared.reply.Reply.TheVariants as reply
use Rattle.reply_texts.specs.Reply.{reply_text}
use Rattle.tracker_machine.specs.Machine.{Machine}
use Rattle.tracker_machine.specs.Tracker.{HasRanks}
use Rattle.tracker_runs.specs.Run.{Marked, plain, IsRun, requests, text_of_run}
use Rattle.tracker_sight.specs.Readers.{is_by, is_open_to, ReadsAmongHidden, replies_read}

-- the first line of an output replies to the first request, and so on: those that reply to the user's
abbrev pub lines_told : List ℕ → List (List ℕ) → List (List ℕ) → List (List ℕ)
lines_told caller [] texts = []
lines_told caller (line ∷ more) [] = []
lines_told caller (line ∷ more) (text ∷ texts) =
    if is_by caller line then text ∷ lines_told caller more texts
    else lines_told caller more texts

-- of a run's output they are the texts of the replies to the user
abbrev pub OutputsTellReplies : Type 0
OutputsTellReplies =
    (m : Machine) (caller : List ℕ) (marked : List Marked)
    → lines_told caller (map (λ x. x.line) marked) (lines (text_of_run m marked))
    ≡ map reply_text (replies_read caller m marked)

-- no line of an output tells that memory lacked or that the keeper failed
abbrev pub TellNoFault : List (List ℕ) → Type 0
TellNoFault [] = Unit {0}
TellNoFault (text ∷ texts) =
    (text ≢ reply_text (reply.Refused refusal.Memory))
    × (text ≢ reply_text (reply.Refused refusal.Keeper)) × TellNoFault texts

abbrev pub unmarked : List (List ℕ) → List Marked
unmarked lines = map (λ line. record { line = line; mark = plain }) lines

-- Two inputs for a tracker differ in what is hidden from the user: without the lines that do hidden things they are the same, and
-- in both each line is one that the user may send or others may, as is told there.
pub record DifferInHidden (caller : List ℕ) (m : Machine) (input other : List ℕ) : Type 0 where
  pub first : ReadsAmongHidden caller m (unmarked (requests (lines input)))
  pub second : ReadsAmongHidden caller m (unmarked (requests (lines other)))
  pub rest : filter (is_open_to caller) (requests (lines other))
      ≡ filter (is_open_to caller) (requests (lines input))

-- then the user is told the same bytes by both outputs, where neither tells a fault
abbrev pub OutputsTellTheSame : Type 0
OutputsTellTheSame =
    (m last other_last : Machine) (caller input other text other_text : List ℕ)
    (failures other_failures : ℕ) → HasRanks m → DifferInHidden caller m input other
    → IsRun m (requests (lines input)) text last failures
    → IsRun m (requests (lines other)) other_text other_last other_failures
    → TellNoFault (lines text) → TellNoFault (lines other_text)
    → lines_told caller (requests (lines other)) (lines other_text)
    ≡ lines_told caller (requests (lines input)) (lines text)
