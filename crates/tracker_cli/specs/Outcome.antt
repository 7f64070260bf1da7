-- What the command line writes, by its status.
use Rattle.std.specs.Prelude.{◌≡◌, ◌≢◌, ◌⊎◌, ◌<◌, ◌≤◌, ◌==◌, ℕ, Bool, true, not, IsTrue, List, [], ◌∷◌, ◌++◌, length, codes, Option, Some, IfSome, Ok}
use Rattle.std.specs.Str.{IsUtf8}
use Rattle.std.specs.Io.KnownBytes.{Appends, Consumes, IsAtEnd}
use Rattle.field_values.specs.Parts.{Parts}
use Rattle.setup_reading.specs.Reading.{setup_in}
use Rattle.request_lines.specs.Lines.{lines, whole_lines, AreWithinLimits, StopsAtLong, StopsAtMany}
use Rattle.request_lines.specs.declared.run.End.{End}
use Rattle.request_lines.specs.declared.run.End.TheVariants.{Done, ReadFault, WriteFault, Memory, LongLine, ManyLines}
use Rattle.jql_print.specs.Check.{IsReply}
use Rattle.tracker_keeper.specs.Rows.{Rows, no_rows}
use Rattle.tracker_machine.specs.Machine.{Machine, opening}
use Rattle.tracker_machine.specs.Kept.{rows_of}
use Rattle.tracker_machine.specs.Tracker.{IsTracker}
use Rattle.tracker_runs.specs.Run.{IsRun, IsCutRun, requests}
use Rattle.tracker_core.specs.Desk.{HasNoRow, HasRow, IsOpened}
use Rattle.tracker_core.specs.Left.{LeavesOpened, LeavesWithOne}
use Rattle.tracker_cli.specs.Answering.{IsWithLine, RoseBy}
use Rattle.tracker_cli.specs.Numerals.{IsNumberOf}
pub use Rattle.status_texts.specs.Texts.{held, limit_input, usage}
pub use Rattle.status_texts.specs.Written.{GrewBy, GrewByFront, IsKeptText}
pub use Rattle.status_texts.specs.Setups.{setup_limit, HasSetup, IsSetup, IsSetupText}

-- ---- the words

abbrev pub IsExec : List (List ℕ) → Type 0
IsExec words = words ≡ codes "exec" ∷ []

abbrev pub IsCheck : List (List ℕ) → Type 0
IsCheck words = words ≡ codes "check" ∷ []

abbrev pub IsInit : List (List ℕ) → Type 0
IsInit words = words ≡ codes "init" ∷ []

-- the words are those of a command that answers line after line
abbrev pub IsOfLines : List (List ℕ) → Type 0
IsOfLines words = IsExec words ⊎ IsCheck words

abbrev pub IsExport : List (List ℕ) → Type 0
IsExport words = words ≡ codes "export" ∷ []

-- the word doesn't begin with a hyphen
abbrev pub is_plain : List ℕ → Bool
is_plain [] = true
is_plain (byte ∷ rest) = not (byte == 45)

-- the words are `import` and this user
abbrev pub IsImport : List (List ℕ) → List ℕ → Type 0
IsImport words user = (words ≡ codes "import" ∷ user ∷ []) × IsTrue (is_plain user)

abbrev pub IsImportOfSome : List (List ℕ) → Type 0
IsImportOfSome words = (user : List ℕ) × IsImport words user

-- the words are `generate` and this number of issues
abbrev pub IsGenerate : List (List ℕ) → ℕ → Type 0
IsGenerate words n =
    (word : List ℕ) × (words ≡ codes "generate" ∷ word ∷ []) × IsNumberOf 1 20_000 word n

abbrev pub IsGenerateOfSome : List (List ℕ) → Type 0
IsGenerateOfSome words = (n : ℕ) × IsGenerate words n

-- the words are a command's
abbrev pub IsCommand : List (List ℕ) → Type 0
IsCommand words =
    IsOfLines words ⊎ IsInit words ⊎ IsExport words ⊎ IsImportOfSome words ⊎ IsGenerateOfSome words

-- ---- texts

abbrev pub limit_line : List ℕ
limit_line = codes "limit line\n"

abbrev pub limit_lines : List ℕ
limit_lines = codes "limit lines\n"

-- ---- replies

-- a run begins where the rows of the keeper are, or as a new tracker of that setup where there are none, so far as it tells them
abbrev pub BeginsIn : {P : Type 0} → (P → Rows → Type 0) → (P → Type 0) → List ℕ → P → P → Machine
    → Type 0
BeginsIn keeps tells setup_text old new m =
    (rows : Rows) → keeps old rows → tells new → IsOpened setup_text rows m

-- of lines, which state is kept behind them, where so many of them were answered that the keeper failed
abbrev pub IsKeptBehind : Type 1
IsKeptBehind = List (List ℕ) → Machine → ℕ → Type 0

-- this text is the replies to these lines, from where a run begins, under some marks, and the last state is kept, where so many
-- lines were answered that the keeper failed
abbrev pub AreReplies : (Machine → Type 0) → IsKeptBehind → List (List ℕ) → List ℕ → Type 0
AreReplies Begins Kept all text =
    (start : Machine) × (last : Machine) × (failures : ℕ) × Begins start
    × IsRun start (requests all) text last failures × Kept all last failures

-- this text is the replies to the first lines of an input, and then at most a front of the next one's reply; no other call was
-- made, so that `last` is the state after them, and it is kept; or no desk was opened, and there is no text
abbrev pub AreCutReplies : (Machine → Type 0) → IsKeptBehind → Type 0 → List ℕ → List ℕ → Type 0
AreCutReplies Begins Kept Unopened bytes text =
    ((text ≡ []) × Unopened)
    ⊎ ((start : Machine) × (last : Machine) × (failures : ℕ) × Begins start
    × IsCutRun start (lines bytes) text last failures × Kept (lines bytes) last failures)

-- each line, taken as a query, has its reply, one behind another
abbrev pub AreChecked : List (List ℕ) → List ℕ → Type 0
AreChecked [] text = text ≡ []
AreChecked (line ∷ more) text =
    (first : List ℕ) × (rest : List ℕ) × IsReply line first × (text ≡ first ++ rest)
    × AreChecked more rest

-- after the lines that are done, nothing, or a front of the reply to the next one, which is within the limits too
abbrev pub IsFrontOfCheck : List (List ℕ) → List (List ℕ) → List ℕ → Type 0
IsFrontOfCheck done rest front =
    (front ≡ [])
    ⊎ ((line : List ℕ) × (more : List (List ℕ)) × (text : List ℕ) × (back : List ℕ)
    × (rest ≡ line ∷ more)
    × AreWithinLimits (done ++ line ∷ []) × IsReply line text × (text ≡ front ++ back))

-- the first lines of an input have their whole replies, and at most the next one has a front of its reply
pub record AreCutChecks (bytes text : List ℕ) : Type 0 where
  pub done : List (List ℕ)
  pub rest : List (List ℕ)
  pub all_is : lines bytes ≡ done ++ rest
  pub within : AreWithinLimits done
  pub whole : List ℕ
  pub checked : AreChecked done whole
  pub front : List ℕ
  pub next : IsFrontOfCheck done rest front
  pub text_is : text ≡ whole ++ front

-- this text is what the words' command replies to these lines
abbrev pub AreRepliesOf : (Machine → Type 0) → IsKeptBehind → List (List ℕ) → List (List ℕ)
    → List ℕ → Type 0
AreRepliesOf Begins Kept words all text =
    (IsExec words × AreReplies Begins Kept all text) ⊎ (IsCheck words × AreChecked all text)

-- this text is what it has replied to an input when it is cut short
abbrev pub AreCutRepliesOf : (Machine → Type 0) → IsKeptBehind → Type 0 → List (List ℕ) → List ℕ
    → List ℕ → Type 0
AreCutRepliesOf Begins Kept Unopened words bytes text =
    (IsExec words × AreCutReplies Begins Kept Unopened bytes text)
    ⊎ (IsCheck words × AreCutChecks bytes text)

-- the keeper has the rows of a state, so far as it tells them; and at most as many lines were answered that it failed as its count
-- rose by, or that count stands at its last value
pub record HasRowsOf {P : Type 0} (keeps : P → Rows → Type 0) (tells : P → Type 0) (faults : P → ℕ)
    (old new : P) (m : Machine) (failures : ℕ) : Type 0 where
  pub rows : (rows : Rows) → keeps old rows → tells new → keeps new (rows_of m)
  pub counted : RoseBy (faults old) (faults new) failures

-- it has the rows of the state behind these lines, and a crash leaves them, or those of the state with one of the lines more, so far
-- as it tells its rows, and if a crash left just its rows before
pub record HasRowsBehind {P : Type 0} (keeps : P → Rows → Type 0) (tells : P → Type 0)
    (faults : P → ℕ) (leaves : P → Rows → Rows → Type 0) (old new : P) (all : List (List ℕ))
    (m : Machine) (failures : ℕ) : Type 0 where
  pub tracker : IsTracker m
  pub kept : HasRowsOf keeps tells faults old new m failures
  pub left : (rows : Rows) → keeps old rows → leaves old rows rows → tells new
      → LeavesWithOne leaves (IsWithLine all) new m

-- it has the rows that it had
abbrev pub HasItsRows : {P : Type 0} → (P → Rows → Type 0) → P → P → Type 0
HasItsRows keeps old new = (rows : Rows) → keeps old rows → keeps new rows

-- the same, where no desk was opened; and a crash leaves them, or those of the tracker that they make
pub record StaysUnopened {P : Type 0} (keeps : P → Rows → Type 0) (tells : P → Type 0)
    (leaves : P → Rows → Rows → Type 0) (setup_text : List ℕ) (old new : P) : Type 0 where
  pub rows : HasItsRows keeps old new
  pub left : (rows : Rows) → keeps old rows → leaves old rows rows → tells new
      → LeavesOpened leaves setup_text new rows

-- it has a row, so far as it tells its rows
abbrev pub HasSomeRow : {P : Type 0} → (P → Rows → Type 0) → (P → Type 0) → P → P → Type 0
HasSomeRow keeps tells old new = (rows : Rows) → keeps old rows → tells new → HasRow rows

-- the replies to the lines before the first that passes a limit, and then the limit's text
abbrev pub IsLimitText : (List (List ℕ) → List ℕ → Type 0) → List ℕ → List ℕ → Type 0
IsLimitText Replies bytes due =
    ((done : List (List ℕ)) × (text : List ℕ) × StopsAtLong (lines bytes) done × Replies done text
    × (due ≡ text ++ limit_line))
    ⊎ ((done : List (List ℕ)) × (text : List ℕ) × StopsAtMany (lines bytes) done × Replies done text
    × (due ≡ text ++ limit_lines))

-- all replies to these lines, and then a front of the limit's text
abbrev pub IsCutLimit : (List (List ℕ) → List ℕ → Type 0) → List (List ℕ) → List ℕ → List ℕ → Type 0
IsCutLimit Replies done limit text =
    (whole : List ℕ) × (front : List ℕ) × (back : List ℕ) × Replies done whole
    × (limit ≡ front ++ back) × (text ≡ whole ++ front)

-- all replies to the lines before the first that passes a limit, and then a front of the limit's text
abbrev pub IsCutLimitText : (List (List ℕ) → List ℕ → Type 0) → List ℕ → List ℕ → Type 0
IsCutLimitText Replies bytes text =
    ((done : List (List ℕ)) × StopsAtLong (lines bytes) done
    × IsCutLimit Replies done limit_line text)
    ⊎ ((done : List (List ℕ)) × StopsAtMany (lines bytes) done
    × IsCutLimit Replies done limit_lines text)

-- how the loop over lines ends, told by which texts are the replies to lines, and which are those to an input where it is cut short
abbrev pub EndsRun : (List (List ℕ) → List ℕ → Type 0) → (List ℕ → List ℕ → Type 0) → List ℕ
    → Option (List ℕ) → Option (List ℕ) → Option (List ℕ) → End → Type 0
EndsRun Replies Cut bytes left old new Done =
    IsAtEnd left × AreWithinLimits (lines bytes) × GrewBy old new (Replies (lines bytes))
EndsRun Replies Cut bytes left old new ReadFault =
    (read : List ℕ) × Consumes (Some bytes) left read × AreWithinLimits (lines read)
    × GrewBy old new (Replies (whole_lines read))
EndsRun Replies Cut bytes left old new WriteFault = GrewBy old new (Cut bytes)
EndsRun Replies Cut bytes left old new Memory = GrewBy old new (Cut bytes)
EndsRun Replies Cut bytes left old new LongLine =
    (done : List (List ℕ)) × StopsAtLong (lines bytes) done × GrewBy old new (Replies done)
EndsRun Replies Cut bytes left old new ManyLines =
    (done : List (List ℕ)) × StopsAtMany (lines bytes) done × GrewBy old new (Replies done)

-- ---- by status

-- what comes of words that are no command's: their text was written, or a front of it where the sink failed, or there was no memory
-- to read them
pub record UsageEnd (status : ℕ) (old new : Option (List ℕ)) : Type 0 where
  pub told : status ≡ 1 → Appends old new usage
  pub written : status ≡ 3 → GrewByFront old new (λ due. due ≡ usage)
  pub memory : status ≡ 6 → new ≡ old
  pub statuses : (status ≡ 1) ⊎ (status ≡ 3) ⊎ (status ≡ 6)

-- what comes of a command that answers line after line, where these texts are the replies to lines, and those to an input where it is
-- cut short. `Opens` says that the command opens a desk, `Same` that the keeper has the rows that it had, and `Bad` which of them is the
-- first bad one
pub record LinesEnd
    (Replies : List (List ℕ) → List ℕ → Type 0) (Cut : List ℕ → List ℕ → Type 0)
    (Opens Same : Type 0) (Bad : ℕ → ℕ → Type 0) (status : ℕ)
    (left after old new : Option (List ℕ)) : Type 0 where
  -- the input was read to its end, and each of its lines has its reply
  pub done : status ≡ 0
      → IfSome left (λ bytes. IsAtEnd after × AreWithinLimits (lines bytes)
      × GrewBy old new (Replies (lines bytes)))
  -- a read failed: all that was read is within the limits, and the whole lines have their replies
  pub read : status ≡ 2 →
      IfSome left (λ bytes. (read : List ℕ) × Consumes (Some bytes) after read
      × AreWithinLimits (lines read) × GrewBy old new (Replies (whole_lines read)))
  -- a write failed: the first lines have their replies, and at most the next one a front of its reply; or all lines before a limit have
  -- theirs, and the limit's text has a front; or so has the text on a bad row
  pub written : status ≡ 3 →
      IfSome left (λ bytes. GrewBy old new (Cut bytes)
      ⊎ GrewBy old new (IsCutLimitText Replies bytes))
      ⊎ (GrewByFront old new (IsKeptText Bad) × Same)
  -- the keeper failed before any call, and nothing was written
  pub unopened : status ≡ 4 → (new ≡ old) × Same
  -- a row is bad, which is told
  pub bad : status ≡ 5 → GrewBy old new (IsKeptText Bad) × Same
  -- neither comes of a command that opens no desk, and nothing was read
  pub opens : (status ≡ 4) ⊎ (status ≡ 5) → Opens
  pub unread : (status ≡ 4) ⊎ (status ≡ 5) → after ≡ left
  -- want of memory: the first lines have their replies, and at most the next one a front of its reply
  pub memory : status ≡ 6 → IfSome left (λ bytes. GrewBy old new (Cut bytes))
  -- a limit is passed: the lines before have their replies, and the limit's text follows
  pub limit : status ≡ 7 → IfSome left (λ bytes. GrewBy old new (IsLimitText Replies bytes))
  pub statuses : (status ≤ 7) × (status ≢ 1)

-- a new tracker was made of this setup's text, where there was no row
pub record IsCreated {P : Type 0} (keeps : P → Rows → Type 0) (tells : P → Type 0) (old new : P)
    (text : List ℕ) : Type 0 where
  pub setup : Parts
  pub is_text : IsUtf8 text
  pub reads : setup_in text ≡ Ok setup
  pub kept : keeps old no_rows → keeps new (rows_of (opening text setup))
  pub none : (rows : Rows) → keeps old rows → tells new → HasNoRow rows

-- one of the texts of `init`, each where it is due: the input is too long; or it is within its limit, and no setup; or it is one, and the
-- keeper has a row, which `Held` says
abbrev pub IsInitText : Type 0 → Option (List ℕ) → List ℕ → Type 0
IsInitText Held left text =
    ((text ≡ limit_input) × IfSome left (λ bytes. setup_limit < length bytes))
    ⊎ IsSetupText left text ⊎ ((text ≡ held) × HasSetup left × Held)

-- what comes of `init`. `Created` says that a tracker was made of a text, `Same` that the keeper has the rows that it had, and `Held` that
-- it has some
pub record InitEnd
    (Created : List ℕ → Type 0) (Same Held : Type 0) (status : ℕ)
    (left after old new : Option (List ℕ)) : Type 0 where
  -- the input was read to its end, and is the setup of the tracker that was made; nothing was written
  pub done : status ≡ 0
      → (new ≡ old)
      × IfSome left (λ bytes. IsAtEnd after × (length bytes ≤ setup_limit) × Created bytes)
  -- a read failed
  pub read : status ≡ 2 → (new ≡ old) × Same
  -- a write failed: the text that was due has a front
  pub written : status ≡ 3 → GrewByFront old new (IsInitText Held left) × Same
  -- the input is a setup, and the keeper failed
  pub unopened : status ≡ 4 → (new ≡ old) × HasSetup left × Same
  -- want of memory
  pub memory : status ≡ 6 → (new ≡ old) × Same
  -- the input is too long
  pub limit : status ≡ 7
      → Appends old new limit_input × IfSome left (λ bytes. setup_limit < length bytes) × Same
  -- the input is within its limit, and no setup
  pub setup : status ≡ 8 → GrewBy old new (IsSetupText left) × Same
  -- the input is a setup, and the keeper has a row
  pub held_is : status ≡ 9 → Appends old new held × HasSetup left × Held × Same
  pub statuses : (status ≤ 9) × (status ≢ 1) × (status ≢ 5)
