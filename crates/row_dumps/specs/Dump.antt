-- A text that has the rows of a keeper.
use Rattle.std.specs.Prelude.{◌≡◌, ◌<◌, ◌^◌, ℕ, List}
use Rattle.std.specs.List.{All}
use Rattle.std.specs.Str.{IsUtf8}
use Rattle.tracker_keeper.specs.declared.row.Row.{Row}
use Rattle.tracker_keeper.specs.Rows.{Rows, IsListing}
use Rattle.row_lines.specs.RowText.{rows_text}

-- a row as its type has it: its kind is a byte, and its text UTF-8
pub record HasForm (row : Row) : Type 0 where
  pub kind_small : row.kind < 2 ^ 8
  pub utf8 : IsUtf8 row.body

-- the text has these rows, by kind and then number, a line each
pub record IsDump (rows : Rows) (text : List ℕ) : Type 0 where
  pub list : List Row
  pub listing : IsListing rows list
  pub formed : All HasForm list
  pub text_is : text ≡ rows_text list
