-- The numbers of issues and of changes: where both are others, the same is told but for the numbers of changes.
use Rattle.std.specs.Prelude.{◌≡◌, ◌<◌, ℕ, List, map, Bool, true, false}
use Rattle.tracker_calls.specs.declared.call.Call.{Call}
use Rattle.tracker_calls.specs.declared.call.Call.TheVariants as call
use Rattle.tracker_calls.specs.declared.reply.Answer.TheVariants as answer
use Rattle.tracker_calls.specs.declared.reply.Reply.{Reply}
use Rattle.tracker_calls.specs.declared.reply.Reply.TheVariants as reply
use Rattle.tracker_calls.specs.declared.reply.ToldEntry.{ToldEntry}
use Rattle.tracker_machine.specs.Machine.{Machine}
use Rattle.tracker_machine.specs.Step.{reply_of}
use Rattle.tracker_sight.specs.RenumberedIssues.{renumbered_issue, renumbered_rank}

-- a tracker whose issues and changes have other numbers
abbrev pub renumbered : (ℕ → ℕ) → (ℕ → ℕ) → Machine → Machine
renumbered numbers changes m = record m {
  change = changes m.change;
  histories = map (renumbered_issue numbers changes) m.histories;
  order = map (renumbered_rank numbers) m.order;
}

-- later ones have greater numbers, as before
abbrev pub IsRising : (ℕ → ℕ) → Type 0
IsRising numbers = (x y : ℕ) → x < y → numbers x < numbers y

-- a reply that tells other numbers of changes
abbrev pub renumbered_told : (ℕ → ℕ) → ToldEntry → ToldEntry
renumbered_told changes e = record e { change = changes e.change }

abbrev pub renumbered_reply : (ℕ → ℕ) → Reply → Reply
renumbered_reply changes (reply.Ok (answer.History entries total)) =
    reply.Ok (answer.History (map (renumbered_told changes) entries) total)
renumbered_reply changes r = r

-- the call reads
abbrev pub is_reading : Call → Bool
is_reading (call.Search jql part) = true
is_reading (call.Filter filter part) = true
is_reading (call.Board board part) = true
is_reading (call.Show issue) = true
is_reading (call.History issue part) = true
is_reading _ = false

-- in both trackers it has the same reply, but for the numbers of changes
abbrev pub RenumberedTellTheSame : Type 0
RenumberedTellTheSame =
    (m : Machine) (numbers changes : ℕ → ℕ) (caller : List ℕ) (c : Call) → IsRising numbers
    → is_reading c ≡ true
    → reply_of (renumbered numbers changes m) caller c
    ≡ renumbered_reply changes (reply_of m caller c)
