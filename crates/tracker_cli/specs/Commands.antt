-- What comes of `import`, `export` and `generate`, by their status.
use Rattle.std.specs.Prelude.{◌≡◌, ◌≢◌, ◌⊎◌, ◌<◌, ◌≤◌, ℕ, List, ◌++◌, length, Option, Some, None, IfSome}
use Rattle.std.specs.Io.KnownBytes.{Appends, IsAtEnd}
use Rattle.tracker_calls.specs.declared.call.Call.{Call}
use Rattle.tracker_keeper.specs.Rows.{Rows}
use Rattle.tracker_machine.specs.Machine.{Machine}
use Rattle.tracker_machine.specs.Kept.{rows_of}
use Rattle.tracker_core.specs.Desk.{DeskParts, HasNoRow, IsNew}
use Rattle.issue_csv.specs.Reading.{batch_in}
use Rattle.tracker_import.specs.Calls.{AreMade, AreCutCalls}
use Rattle.tracker_import.specs.Export.{export_text}
use Rattle.tracker_import.specs.Load.{end_of, load_calls, load_summary, loaded}
use Rattle.tracker_cli.specs.Answering.{RoseBy}
use Rattle.tracker_cli.specs.Outcome.{BeginsIn, HasRowsOf, GrewBy, GrewByFront, IsKeptText, held, limit_input}
use Rattle.tracker_cli.specs.Texts.{csv_line, load_line}

-- a desk was opened, and no call was made: the keeper has the rows of the state where the desk began
abbrev pub Stands : {P : Type 0} → (P → Rows → Type 0) → (P → Type 0) → (P → ℕ) → List ℕ → P → P
    → Type 0
Stands keeps tells faults setup_text old new =
    (start : Machine) × BeginsIn keeps tells setup_text old new start
    × HasRowsOf keeps tells faults old new start 0

-- ---- export

-- the text is all issues of the state where a desk began, whose rows the keeper has
abbrev pub IsExported : {P : Type 0} → (P → Rows → Type 0) → (P → Type 0) → (P → ℕ) → List ℕ → P → P
    → List ℕ → Type 0
IsExported keeps tells faults setup_text old new text =
    (start : Machine) × BeginsIn keeps tells setup_text old new start
    × HasRowsOf keeps tells faults old new start 0 × (text ≡ export_text start)

-- what comes of `export`, where `Exported` says which texts are those of all issues, `Same` that the keeper has the rows that it had,
-- and `Bad` which of them is the first bad one
pub record ExportedEnd (Exported : List ℕ → Type 0) (Same : Type 0) (Bad : ℕ → ℕ → Type 0)
    (status : ℕ) (left after old new : Option (List ℕ)) : Type 0 where
  -- the issues were written
  pub done : status ≡ 0 → GrewBy old new Exported
  -- a write failed: a front of the issues was written, or of the text on a bad row
  pub written : status ≡ 3
      → GrewByFront old new Exported ⊎ (GrewByFront old new (IsKeptText Bad) × Same)
  -- the keeper failed before, and nothing was written
  pub unopened : status ≡ 4 → (new ≡ old) × Same
  -- a row is bad, which is told
  pub bad : status ≡ 5 → GrewBy old new (IsKeptText Bad) × Same
  -- want of memory: a front of the issues was written; or no desk was opened, and nothing was written
  pub memory : status ≡ 6 → GrewByFront old new Exported ⊎ ((new ≡ old) × Same)
  -- the input isn't read
  pub unread : after ≡ left
  pub statuses : (status ≤ 6) × (status ≢ 1) × (status ≢ 2)

-- ---- import

-- the most bytes of a CSV
abbrev pub import_limit : ℕ
import_limit = 67_108_864

-- this text is the replies to these calls of the user, from where a desk began, under some marks, and the last state is kept, where
-- so many calls were answered that the keeper failed
abbrev pub AreImported : {P : Type 0} → (P → Rows → Type 0) → (P → Type 0) → (P → ℕ) → List ℕ → P
    → P → List ℕ → List Call → List ℕ → Type 0
AreImported keeps tells faults setup_text old new user calls text =
    (start : Machine) × (last : Machine) × (failures : ℕ)
    × BeginsIn keeps tells setup_text old new start
    × AreMade user start calls text last failures
    × HasRowsOf keeps tells faults old new last failures

-- this text is the replies to the first of these calls, and then at most a front of the next one's reply; no other call was made
abbrev pub AreCutImported : {P : Type 0} → (P → Rows → Type 0) → (P → Type 0) → (P → ℕ) → List ℕ → P
    → P → List ℕ → List Call → List ℕ → Type 0
AreCutImported keeps tells faults setup_text old new user calls text =
    (start : Machine) × (last : Machine) × (failures : ℕ)
    × BeginsIn keeps tells setup_text old new start
    × AreCutCalls user start calls text last failures
    × HasRowsOf keeps tells faults old new last failures

-- no record of these bytes is bad, and each has its reply
abbrev pub IsWholeImport : (List Call → List ℕ → Type 0) → Option (List ℕ) → Option (List ℕ)
    → List ℕ → Type 0
IsWholeImport Made old new bytes =
    ((batch_in bytes).bad ≡ None) × GrewBy old new (Made (batch_in bytes).calls)

-- the replies to the records before the first bad one, and then its text
abbrev pub IsRecordText : (List Call → List ℕ → Type 0) → List ℕ → List ℕ → Type 0
IsRecordText Made bytes text =
    (number : ℕ) × (whole : List ℕ) × ((batch_in bytes).bad ≡ Some number)
    × Made (batch_in bytes).calls whole × (text ≡ whole ++ csv_line number)

-- or a front of its text
abbrev pub IsCutRecordText : (List Call → List ℕ → Type 0) → List ℕ → List ℕ → Type 0
IsCutRecordText Made bytes text =
    (number : ℕ) × (whole : List ℕ) × (front : List ℕ) × (back : List ℕ)
    × ((batch_in bytes).bad ≡ Some number)
    × Made (batch_in bytes).calls whole × (csv_line number ≡ front ++ back)
    × (text ≡ whole ++ front)

-- a write failed on the replies to the records of these bytes, or on the text of the first bad one
abbrev pub IsUnwritten : (List Call → List ℕ → Type 0) → (List Call → List ℕ → Type 0)
    → Option (List ℕ) → Option (List ℕ) → List ℕ → Type 0
IsUnwritten Made Cut old new bytes =
    GrewBy old new (Cut (batch_in bytes).calls) ⊎ GrewBy old new (IsCutRecordText Made bytes)

-- the input is too long
abbrev pub IsTooLong : Option (List ℕ) → Type 0
IsTooLong left = IfSome left (λ bytes. import_limit < length bytes)

-- what comes of `import`, where these texts are the replies to calls, and those to calls that are cut short. `Unmade` says that a desk
-- was opened and no call made, `Same` that the keeper has the rows that it had, and `Bad` which of them is the first bad one
pub record ImportedEnd
    (Made Cut : List Call → List ℕ → Type 0) (Unmade Same : Type 0) (Bad : ℕ → ℕ → Type 0)
    (status : ℕ) (left after old new : Option (List ℕ)) : Type 0 where
  -- the input was read to its end, and each of its records has its reply
  pub done : status ≡ 0
      → IfSome left (λ bytes. IsAtEnd after × (length bytes ≤ import_limit)
      × IsWholeImport Made old new bytes)
  -- a read failed, and nothing was written
  pub read : status ≡ 2 → (new ≡ old) × Unmade
  -- a write failed: the input is within its limit, and a front of the replies was written, or all replies to the records before a bad
  -- one and a front of its text; or a front of the limit's text, or of that on a bad row
  pub written : status ≡ 3 →
      IfSome left (λ bytes. (length bytes ≤ import_limit) × IsUnwritten Made Cut old new bytes)
      ⊎ (GrewByFront old new (λ due. due ≡ limit_input) × IsTooLong left × Unmade)
      ⊎ (GrewByFront old new (IsKeptText Bad) × Same)
  -- the keeper failed before any call, and nothing was written
  pub unopened : status ≡ 4 → (new ≡ old) × Same
  -- a row is bad, which is told
  pub bad : status ≡ 5 → GrewBy old new (IsKeptText Bad) × Same
  -- at either nothing was read
  pub unread : (status ≡ 4) ⊎ (status ≡ 5) → after ≡ left
  -- want of memory: the input is within its limit, and a front of the replies was written; or no call was made and nothing was written,
  -- with a desk or without one
  pub memory : status ≡ 6 →
      IfSome left (λ bytes. (length bytes ≤ import_limit)
      × GrewBy old new (Cut (batch_in bytes).calls))
      ⊎ ((new ≡ old) × Unmade)
      ⊎ ((new ≡ old) × Same)
  -- the input is too long, which is told
  pub limit : status ≡ 7 → Appends old new limit_input × IsTooLong left × Unmade
  -- the input is within its limit, and a record is bad: those before have their replies, and its text follows
  pub record_is : status ≡ 8
      → IfSome left (λ bytes. (length bytes ≤ import_limit)
      × GrewBy old new (IsRecordText Made bytes))
  pub statuses : (status ≤ 8) × (status ≢ 1)

-- ---- generate

-- it had no row, so far as it tells them
abbrev pub HadNoRow : {P : Type 0} → (P → Rows → Type 0) → (P → Type 0) → P → P → Type 0
HadNoRow keeps tells old new = (rows : Rows) → keeps old rows → tells new → HasNoRow rows

-- the text tells what the load of that many issues comes to in a new tracker of this setup; and the keeper, which had no row, has the
-- rows of the tracker behind it
pub record IsGenerated {P : Type 0} (keeps : P → Rows → Type 0) (tells : P → Type 0)
    (faults : P → ℕ) (setup_text : List ℕ) (old new : P) (n : ℕ) (text : List ℕ) : Type 0 where
  pub start : Machine
  pub begins : IsNew setup_text start
  pub text_is : text ≡ load_line (load_summary n start)
  pub none : HadNoRow keeps tells old new
  pub kept : HasRowsOf keeps tells faults old new (loaded n start) 0

-- the first calls of that load were made in a new tracker, and no other one; and the keeper, which had no row, has the rows of the
-- tracker behind them
pub record IsBegun {P : Type 0} (keeps : P → Rows → Type 0) (tells : P → Type 0) (faults : P → ℕ)
    (setup_text : List ℕ) (old new : P) (n failures : ℕ) : Type 0 where
  pub start : Machine
  pub begins : IsNew setup_text start
  pub done : List Call
  pub rest : List Call
  pub calls_are : load_calls n ≡ done ++ rest
  pub none : HadNoRow keeps tells old new
  pub kept : HasRowsOf keeps tells faults old new (end_of start done) failures

-- a write failed on the text of a load, or on that on a row, which `Held` says that the keeper has
abbrev pub IsUnwrittenLoad : (List ℕ → Type 0) → Type 0 → Type 0 → Option (List ℕ) → Option (List ℕ)
    → Type 0
IsUnwrittenLoad Generated Same Held old new =
    GrewByFront old new Generated ⊎ (GrewByFront old new (λ due. due ≡ held) × Held × Same)

-- what comes of `generate`, where `Generated` says which text tells what the load comes to, `Begun` that its first calls were made and
-- that the keeper failed so often, `Same` that the keeper has the rows that it had, and `Held` that it has some
pub record GeneratedEnd
    (Generated : List ℕ → Type 0) (Begun : ℕ → Type 0) (Same Held : Type 0) (status : ℕ)
    (left after old new : Option (List ℕ)) : Type 0 where
  -- all calls were made, and what they come to was written
  pub done : status ≡ 0 → GrewBy old new Generated
  pub written : status ≡ 3 → IsUnwrittenLoad Generated Same Held old new
  -- the keeper failed, at a call or before any, and nothing was written
  pub unkept : status ≡ 4 → (new ≡ old) × (Begun 1 ⊎ Same)
  -- want of memory, on the way or before any call, and nothing was written
  pub memory : status ≡ 6 → (new ≡ old) × (Begun 0 ⊎ Same)
  -- the keeper has a row
  pub held_is : status ≡ 9 → Appends old new held × Held × Same
  -- the input isn't read
  pub unread : after ≡ left
  pub statuses : (status ≡ 0) ⊎ (status ≡ 3) ⊎ (status ≡ 4) ⊎ (status ≡ 6) ⊎ (status ≡ 9)

-- ---- on the way

-- the keeper that a desk hands back has the rows of this state, if the desk's had its own, and its count rose by so many failures
pub record HandsBack {P : Type 0} (keeps : P → Rows → Type 0) (tells : P → Type 0) (faults : P → ℕ)
    (old : DeskParts P) (new : P) (last : Machine) (failures : ℕ) : Type 0 where
  pub rows : keeps old.keeper (rows_of old.machine) → keeps new (rows_of last)
  pub told : tells new → tells old.keeper
  pub counted : RoseBy (faults old.keeper) (faults new) failures

-- this text is the replies to these calls that a desk made
abbrev pub AreMadeFrom : {P : Type 0} → (P → Rows → Type 0) → (P → Type 0) → (P → ℕ) → DeskParts P
    → P → List ℕ → List Call → List ℕ → Type 0
AreMadeFrom keeps tells faults old new user calls text =
    (last : Machine) × (failures : ℕ) × AreMade user old.machine calls text last failures
    × HandsBack keeps tells faults old new last failures

-- or to calls that are cut short
abbrev pub AreCutFrom : {P : Type 0} → (P → Rows → Type 0) → (P → Type 0) → (P → ℕ) → DeskParts P
    → P → List ℕ → List Call → List ℕ → Type 0
AreCutFrom keeps tells faults old new user calls text =
    (last : Machine) × (failures : ℕ) × AreCutCalls user old.machine calls text last failures
    × HandsBack keeps tells faults old new last failures

-- the first calls of a load were made by a desk, and its keeper handed back
pub record IsBegunFrom {P : Type 0} (keeps : P → Rows → Type 0) (tells : P → Type 0)
    (faults : P → ℕ) (old : DeskParts P) (new : P) (n failures : ℕ) : Type 0 where
  pub done : List Call
  pub rest : List Call
  pub calls_are : load_calls n ≡ done ++ rest
  pub back : HandsBack keeps tells faults old new (end_of old.machine done) failures
