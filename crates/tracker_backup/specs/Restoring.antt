-- What comes of `restore`, by its status.
use Rattle.std.specs.Prelude.{◌≡◌, ◌≢◌, ◌⊎◌, ◌<◌, ◌≤◌, ℕ, List, length, Option, IfSome}
use Rattle.std.specs.Io.KnownBytes.{Appends, IsAtEnd}
use Rattle.tracker_keeper.specs.declared.row.Row.{Row}
use Rattle.tracker_keeper.specs.Rows.{Rows, found, no_rows}
use Rattle.tracker_rows.specs.Loading.{IsFirstBad}
use Rattle.row_lines.specs.Telling.{Tells, IsBadLine}
use Rattle.row_restore.specs.Restoring.{IsBackup}
use Rattle.status_texts.specs.Texts.{held, kept_line, limit_input}
use Rattle.tracker_backup.specs.Ends.{HadNone, Writes, WritesFrontOf, bad_line}

-- the most bytes of the input
abbrev pub restore_limit : ℕ
restore_limit = 4_294_967_295

-- the lines of these bytes tell the rows of a tracker, and a keeper that had no row has just these
pub record IsStored {P : Type 0} (keeps : P → Rows → Type 0) (old new : P) (bytes : List ℕ)
    : Type 0 where
  pub list : List Row
  pub backup : IsBackup bytes list
  pub kept : keeps old no_rows → keeps new (found list)

-- the same, and it had none
abbrev pub IsRestored : {P : Type 0} → (P → Rows → Type 0) → (P → Type 0) → P → P → List ℕ → Type 0
IsRestored keeps tells old new bytes = IsStored keeps old new bytes × HadNone keeps tells old new

-- the first bad line of these bytes is told
abbrev pub IsLineText : List ℕ → List ℕ → Type 0
IsLineText bytes text = (number : ℕ) × IsBadLine bytes number × (text ≡ bad_line number)

-- or where all lines are good, the first row that is none of a tracker's, or that has to be there and isn't
abbrev pub IsRowText : List ℕ → List ℕ → Type 0
IsRowText bytes text =
    (kind : ℕ) × (number : ℕ)
    × ((list : List Row) × Tells bytes list × IsFirstBad list kind number)
    × (text ≡ kept_line kind number)

-- the text on an input that is too long, or on its lines or rows
abbrev pub IsInputText : Option (List ℕ) → List ℕ → Type 0
IsInputText left text =
    ((text ≡ limit_input) × IfSome left (λ bytes. restore_limit < length bytes))
    ⊎ IfSome left (λ bytes. IsLineText bytes text ⊎ IsRowText bytes text)

-- one of the texts, each where it is due: the keeper has a row, which `Held` says, or that on the input
abbrev pub IsRestoreText : Type 0 → Option (List ℕ) → List ℕ → Type 0
IsRestoreText Held left text = ((text ≡ held) × Held) ⊎ IsInputText left text

-- what comes of it. `Restored` says that the keeper has just the rows of these bytes, `Same` that it has those that it had, and `Held`
-- that it has some
pub record RestoreEnd (Restored : List ℕ → Type 0) (Same Held : Type 0) (status : ℕ)
    (left after old new : Option (List ℕ)) : Type 0 where
  -- the input was read to its end, and its rows are kept; nothing was written
  pub done : status ≡ 0
      → (new ≡ old)
      × IfSome left (λ bytes. IsAtEnd after × (length bytes ≤ restore_limit) × Restored bytes)
  -- a read failed
  pub read : status ≡ 2 → new ≡ old
  -- a write failed: the text that was due has a front
  pub written : status ≡ 3 → WritesFrontOf old new (IsRestoreText Held left)
  -- the keeper failed
  pub unkept : status ≡ 4 → new ≡ old
  -- the rows are no tracker's, of which the first bad one is told
  pub bad : status ≡ 5 → Writes old new (λ text. IfSome left (λ bytes. IsRowText bytes text))
  -- want of memory
  pub memory : status ≡ 6 → new ≡ old
  -- the input is too long
  pub limit : status ≡ 7
      → Appends old new limit_input × IfSome left (λ bytes. restore_limit < length bytes)
  -- a line is none, and is told
  pub line : status ≡ 8 → Writes old new (λ text. IfSome left (λ bytes. IsLineText bytes text))
  -- the keeper has a row, and the input wasn't read
  pub held_is : status ≡ 9 → Appends old new held × Held × (after ≡ left)
  -- where it isn't done, the keeper has what it had
  pub same : status ≢ 0 → Same
  pub statuses : (status ≤ 9) × (status ≢ 1)
