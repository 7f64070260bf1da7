-- Commands in which nothing outside failed.
use Rattle.std.specs.Prelude.{◌≡◌, ◌≢◌, ◌⊎◌, ◌≤◌, ◌++◌, ℕ, List, [], ◌∷◌, length, Option, Some, None}
use Rattle.std.specs.Io.KnownBytes.{Appends}
use Rattle.request_lines.specs.Causes.{Rose}
use Rattle.request_lines.specs.Lines.{lines, AreWithinLimits}
use Rattle.tracker_calls.specs.declared.call.Call.{Call}
use Rattle.tracker_calls.specs.declared.reply.Reply.TheVariants as reply
use Rattle.tracker_calls.specs.declared.reply.Refusal.TheVariants as refusal
use Rattle.issue_csv.specs.Reading.{batch_in}
use Rattle.tracker_keeper.specs.Rows.{Rows}
use Rattle.tracker_machine.specs.Machine.{Machine}
use Rattle.tracker_machine.specs.Step.{reply_of, next_of}
use Rattle.tracker_runs.specs.Run.{reply_line}
use Rattle.tracker_core.specs.Desk.{HasNoRow, IsNew, IsOpened}
use Rattle.tracker_import.specs.Export.{export_text}
use Rattle.tracker_import.specs.Load.{load_summary}
use Rattle.tracker_cli.specs.Outcome.{IsCheck, IsCommand, IsExport, IsGenerate, IsImport, IsInit, IsKeptBehind, AreChecked, GrewBy, IsSetup, setup_limit, usage}
use Rattle.tracker_cli.specs.Commands.{import_limit}
use Rattle.tracker_cli.specs.Texts.{load_line}

-- all was done, or memory lacked
abbrev pub IsDone : ℕ → Type 0 → Type 0
IsDone status Done = (status ≡ 6) ⊎ ((status ≡ 0) × Done)

-- the words are no command's, and nothing else is told
abbrev pub UsageIsTold : Type 0 → List (List ℕ) → ℕ → Option (List ℕ) → Option (List ℕ) → Type 0
UsageIsTold Unfailing words status old new =
    ¬ (IsCommand words) → Unfailing → (status ≡ 6) ⊎ ((status ≡ 1) × Appends old new usage)

-- each line of `check` has its reply
abbrev pub AllAreChecked : Type 0 → List (List ℕ) → ℕ → Option (List ℕ) → Option (List ℕ)
    → Option (List ℕ) → Type 0
AllAreChecked Unfailing words status left old new =
    (input : List ℕ) → IsCheck words → left ≡ Some input → AreWithinLimits (lines input)
    → Unfailing → IsDone status (GrewBy old new (AreChecked (lines input)))

-- `init` makes a tracker, and writes nothing
abbrev pub IsMade : (Rows → Type 0) → Type 0 → List (List ℕ) → ℕ → Option (List ℕ)
    → Option (List ℕ) → Option (List ℕ) → Type 0
IsMade Have Unfailing words status left old new =
    (input : List ℕ) (rows : Rows) → IsInit words → left ≡ Some input
    → length input ≤ setup_limit → IsSetup input → Have rows → HasNoRow rows → Unfailing
    → IsDone status (new ≡ old)

-- `export` writes all issues of the tracker
abbrev pub AllIsExported : (Rows → Type 0) → Type 0 → List ℕ → List (List ℕ) → ℕ
    → Option (List ℕ) → Option (List ℕ) → Type 0
AllIsExported Have Unfailing setup_text words status old new =
    (rows : Rows) (m : Machine) → IsExport words → Have rows → IsOpened setup_text rows m
    → Unfailing → IsDone status (Appends old new (export_text m))

-- each call has the abstract tracker's own reply, or that there was not enough memory, which leaves the tracker; this text is all of
-- them, and this the tracker behind them
abbrev pub AreAnswered : List ℕ → Machine → List Call → List ℕ → Machine → Type 0
AreAnswered user m [] text last = (text ≡ []) × (last ≡ m)
AreAnswered user m (c ∷ more) text last =
    ((rest : List ℕ) × (text ≡ reply_line (reply_of m user c) ++ rest)
    × AreAnswered user (next_of m user c) more rest last)
    ⊎ ((rest : List ℕ) × (text ≡ reply_line (reply.Refused refusal.Memory) ++ rest)
    × AreAnswered user m more rest last)

-- the sink grew by the answers to all of these calls
abbrev pub GrewByAnswers : List ℕ → Machine → List Call → Option (List ℕ) → Option (List ℕ) → Type 0
GrewByAnswers user m calls old new =
    (text : List ℕ) × (last : Machine) × AreAnswered user m calls text last × Appends old new text

-- each record of `import` has its reply
abbrev pub AllAreImported : (Rows → Type 0) → Type 0 → List ℕ → List (List ℕ) → ℕ
    → Option (List ℕ) → Option (List ℕ) → Option (List ℕ) → Type 0
AllAreImported Have Unfailing setup_text words status left old new =
    (user input : List ℕ) (rows : Rows) (m : Machine) → IsImport words user
    → left ≡ Some input → length input ≤ import_limit → (batch_in input).bad ≡ None → Have rows
    → IsOpened setup_text rows m → Unfailing
    → IsDone status (GrewByAnswers user m (batch_in input).calls old new)

-- `generate` tells what the load comes to in a new tracker
abbrev pub AllIsLoaded : (Rows → Type 0) → Type 0 → List ℕ → List (List ℕ) → ℕ → Option (List ℕ)
    → Option (List ℕ) → Type 0
AllIsLoaded Have Unfailing setup_text words status old new =
    (n : ℕ) (rows : Rows) (m : Machine) → IsGenerate words n → Have rows → HasNoRow rows
    → IsNew setup_text m → Unfailing
    → IsDone status (Appends old new (load_line (load_summary n m)))

-- the status isn't that of a keeper that failed, and behind whatever lines, none was answered that it did
abbrev pub IsUnrefused : ℕ → IsKeptBehind → Type 0
IsUnrefused status Kept =
    (status ≢ 4)
    × ((all : List (List ℕ)) (m : Machine) (failures : ℕ) → Kept all m failures → failures ≡ 0)

-- so it is where the keeper's count of faults didn't rise
abbrev pub NoneIsRefused : ℕ → ℕ → ℕ → IsKeptBehind → Type 0
NoneIsRefused before now status Kept = ¬ (Rose before now) → IsUnrefused status Kept
