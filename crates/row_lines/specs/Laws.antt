-- What is proved of all rows and lines.
use Rattle.std.specs.Prelude.{◌≡◌, ℕ, List, AllPairs}
use Rattle.std.specs.List.{All}
use Rattle.tracker_keeper.specs.declared.row.Row.{Row}
use Rattle.tracker_keeper.specs.Rows.{IsBelow}
use Rattle.row_lines.specs.RowText.{IsLineOf, row_line, rows_text}
use Rattle.row_lines.specs.Telling.{CanTell, IsBadLine, Tells}

-- the line of a row is that row's
abbrev pub LinesAreTheirRows : Type 0
LinesAreTheirRows = (row : Row) → CanTell row → IsLineOf row (row_line row)

-- and of no other
abbrev pub LinesAreOfOneRow : Type 0
LinesAreOfOneRow =
    (line : List ℕ) (one other : Row) → IsLineOf one line → IsLineOf other line → one ≡ other

-- the lines of rows that stand in order tell those rows
abbrev pub TextsTellTheirRows : Type 0
TextsTellTheirRows =
    (rows : List Row) → All CanTell rows → AllPairs IsBelow rows → Tells (rows_text rows) rows

-- bytes tell the rows of one list at most
abbrev pub BytesTellOneList : Type 0
BytesTellOneList =
    (bytes : List ℕ) (one other : List Row) → Tells bytes one → Tells bytes other → one ≡ other

-- and where they do, no line is bad
abbrev pub ToldLinesAreGood : Type 0
ToldLinesAreGood =
    (bytes : List ℕ) (rows : List Row) (number : ℕ) → Tells bytes rows → IsBadLine bytes number → ⊥
