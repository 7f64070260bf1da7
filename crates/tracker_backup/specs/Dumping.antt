-- What comes of `dump`, by its status.
use Rattle.std.specs.Prelude.{◌≡◌, ◌⊎◌, ℕ, List, Option}
use Rattle.std.specs.List.{All}
use Rattle.tracker_keeper.specs.declared.row.Row.{Row}
use Rattle.tracker_keeper.specs.Rows.{Rows, IsListing}
use Rattle.row_lines.specs.RowText.{rows_text}
use Rattle.row_dumps.specs.Dump.{HasForm}
use Rattle.tracker_backup.specs.Ends.{Writes, WritesFrontOf}

-- the text has the rows that the keeper has, so far as it tells them: a line each, by kind and then number
pub record IsDumped {P : Type 0} (keeps : P → Rows → Type 0) (tells : P → Type 0) (old new : P)
    (text : List ℕ) : Type 0 where
  pub list : List Row
  pub text_is : text ≡ rows_text list
  pub formed : All HasForm list
  pub listing : (rows : Rows) → keeps old rows → tells new → IsListing rows list

-- what comes of it, where `Dumped` says which text has the rows that the keeper has
pub record DumpEnd (Dumped : List ℕ → Type 0) (status : ℕ) (old new : Option (List ℕ))
    : Type 0 where
  -- all rows were written
  pub done : status ≡ 0 → Writes old new Dumped
  -- a write failed: a front of them was written
  pub written : status ≡ 3 → WritesFrontOf old new Dumped
  -- the keeper failed, and nothing was written
  pub unkept : status ≡ 4 → new ≡ old
  -- want of memory: a front of them was written, or nothing
  pub memory : status ≡ 6 → WritesFrontOf old new Dumped ⊎ (new ≡ old)
  pub statuses : (status ≡ 0) ⊎ (status ≡ 3) ⊎ (status ≡ 4) ⊎ (status ≡ 6)
