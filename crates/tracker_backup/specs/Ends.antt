-- The words of the two commands, what they write, and what they leave to the keeper.
use Rattle.std.specs.Prelude.{◌≡◌, ◌≢◌, ◌⊎◌, ℕ, List, [], ◌∷◌, ◌++◌, codes, decimal, Option}
use Rattle.std.specs.Io.KnownBytes.{Appends}
use Rattle.tracker_keeper.specs.Rows.{Rows, no_rows}
use Rattle.status_texts.specs.Texts.{usage}
use Rattle.row_lines.specs.Writing.{WritesFront}

-- ---- the words

abbrev pub IsDump : List (List ℕ) → Type 0
IsDump words = words ≡ codes "dump" ∷ []

abbrev pub IsRestore : List (List ℕ) → Type 0
IsRestore words = words ≡ codes "restore" ∷ []

-- ---- a text

-- the number of the first bad line
abbrev pub bad_line : ℕ → List ℕ
bad_line number = codes "row " ++ (decimal number ++ 10 ∷ [])

-- ---- what is written

-- a text that is as wanted
abbrev pub Writes : Option (List ℕ) → Option (List ℕ) → (List ℕ → Type 0) → Type 0
Writes old new P = (text : List ℕ) × P text × Appends old new text

-- or a front of one
abbrev pub WritesFrontOf : Option (List ℕ) → Option (List ℕ) → (List ℕ → Type 0) → Type 0
WritesFrontOf old new P = (text : List ℕ) × P text × WritesFront old new text

-- ---- what the keeper has

-- the rows that it had
abbrev pub HasItsRows : {P : Type 0} → (P → Rows → Type 0) → P → P → Type 0
HasItsRows keeps old new = (rows : Rows) → keeps old rows → keeps new rows

-- it had none, so far as it tells them
abbrev pub HadNone : {P : Type 0} → (P → Rows → Type 0) → (P → Type 0) → P → P → Type 0
HadNone keeps tells old new = (rows : Rows) → keeps old rows → tells new → rows ≡ no_rows

-- it has some
abbrev pub HasSome : {P : Type 0} → (P → Rows → Type 0) → (P → Type 0) → P → P → Type 0
HasSome keeps tells old new = (rows : Rows) → keeps old rows → tells new → rows ≢ no_rows

-- ---- other words

-- what comes of words that are neither's: the usage line was written, or a front of it
pub record UsageEnd (status : ℕ) (old new : Option (List ℕ)) : Type 0 where
  pub told : status ≡ 1 → Appends old new usage
  pub written : status ≡ 3 → WritesFront old new usage
  pub statuses : (status ≡ 1) ⊎ (status ≡ 3)
