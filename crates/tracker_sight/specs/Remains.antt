-- The rows of a burndown add up to what is left.
use Rattle.std.specs.Prelude.{◌≡◌, ◌≤◌, ℕ, ℤ, ◌+ℤ◌, List, [], ◌∷◌}
use Rattle.field_values.specs.declared.numbers.SprintNo.{SprintNo}
use Rattle.burndown.specs.declared.share.BurnRow.{BurnRow}
use Rattle.tracker_work.specs.Seen.{sprint_start, sprint_rows, sprint_left}
use Rattle.tracker_calls.specs.declared.call.Call.TheVariants as call
use Rattle.tracker_calls.specs.declared.call.Part.{Part}
use Rattle.tracker_calls.specs.declared.reply.Answer.TheVariants as answer
use Rattle.tracker_calls.specs.declared.reply.BurnedRow.{BurnedRow}
use Rattle.tracker_calls.specs.declared.reply.Reply.{Reply}
use Rattle.tracker_calls.specs.declared.reply.Reply.TheVariants as reply
use Rattle.tracker_machine.specs.Machine.{Machine}
use Rattle.tracker_machine.specs.Tracker.{IsTracker}
use Rattle.tracker_machine.specs.Sprints.{work_of}
use Rattle.tracker_machine.specs.Step.{reply_of}

-- from what was left before them, each row tells by how much that changed and what is left then, and behind the last one this is left
abbrev pub AddUp : ℤ → List BurnRow → ℤ → Type 0
AddUp was [] left = left ≡ was
AddUp was (row ∷ rows) left = (row.left ≡ was +ℤ row.by) × AddUp row.left rows left

-- so do the rows of each sprint, from what was left at its start to what is left at its close or now
abbrev pub BurndownsAddUp : Type 0
BurndownsAddUp =
    (m : Machine) (sprint : ℕ) → IsTracker m
    → AddUp (sprint_start (work_of m) sprint) (sprint_rows (work_of m) sprint)
    (sprint_left (work_of m) sprint)

-- ---- replies

-- the same of rows as they are told
abbrev pub ToldAddUp : ℤ → List BurnedRow → ℤ → Type 0
ToldAddUp was [] left = left ≡ was
ToldAddUp was (row ∷ rows) left = (row.left ≡ was +ℤ row.by) × ToldAddUp row.left rows left

-- where a reply tells all rows of a burndown, those that it tells add up so, from the start to what is left that it tells
abbrev pub TellsSum : Part → Reply → Type 0
TellsSum part (reply.Ok (answer.Burndown left rows start state total)) =
    part.from ≡ 0 → total ≤ part.count → ToldAddUp start rows left
TellsSum part _ = Unit {0}

-- so does each reply to a burndown
abbrev pub BurndownsTellSums : Type 0
BurndownsTellSums =
    (m : Machine) (caller : List ℕ) (sprint : SprintNo) (part : Part) → IsTracker m
    → TellsSum part (reply_of m caller (call.Burndown sprint part))
