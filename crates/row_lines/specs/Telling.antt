-- Which rows the lines of an input tell, and which line is the first bad one.
use Rattle.std.specs.Prelude.{◌≡◌, ◌+◌, ◌<◌, ◌^◌, ℕ, List, [], ◌∷◌, ◌++◌, length, AllPairs}
use Rattle.std.specs.List.{All}
use Rattle.std.specs.Str.{IsUtf8}
use Rattle.request_lines.specs.Lines.{lines}
use Rattle.tracker_keeper.specs.declared.row.Row.{Row}
use Rattle.tracker_keeper.specs.Rows.{IsBelow}
use Rattle.row_lines.specs.RowText.{IsLineOf}
use Rattle.row_lines.specs.declared.reading.LinesFault.{LinesFault}
use Rattle.row_lines.specs.declared.reading.LinesFault.TheVariants.{BadLine, Memory}

-- these lines are those of these rows, one by one
abbrev pub AreLinesOf : List Row → List (List ℕ) → Type 0
AreLinesOf [] [] = Unit {0}
AreLinesOf [] (line ∷ lines) = ⊥
AreLinesOf (row ∷ rows) [] = ⊥
AreLinesOf (row ∷ rows) (line ∷ lines) = IsLineOf row line × AreLinesOf rows lines

-- these lines tell these rows, which stand by kind and then number, each once
pub record TellRows (lines : List (List ℕ)) (rows : List Row) : Type 0 where
  pub each : AreLinesOf rows lines
  pub rising : AllPairs IsBelow rows

-- the lines of these bytes tell these rows
abbrev pub Tells : List ℕ → List Row → Type 0
Tells bytes rows = TellRows (lines bytes) rows

-- the line of this number, from 1, is the first bad one: those before tell rows, and it is no row's, or that of a row which doesn't
-- stand behind all of them
pub record IsBadLine (bytes : List ℕ) (number : ℕ) : Type 0 where
  pub front : List (List ℕ)
  pub line : List ℕ
  pub rest : List (List ℕ)
  pub apart : lines bytes ≡ front ++ line ∷ rest
  pub number_is : number ≡ length front + 1
  pub rows : List Row
  pub told : TellRows front rows
  pub bad : (row : Row) → IsLineOf row line → ¬ All (λ before. IsBelow before row) rows

-- why lines tell no rows
abbrev pub IsLinesFault : List ℕ → LinesFault → Type 0
IsLinesFault bytes (BadLine number) = IsBadLine bytes number
IsLinesFault bytes Memory = Unit {0}

-- rows that can be told: a kind is a byte, a number one that a table of signed numbers can hold, and a text is UTF-8
pub record CanTell (row : Row) : Type 0 where
  pub kind_small : row.kind < 2 ^ 8
  pub number_small : row.no < 2 ^ 63
  pub utf8 : IsUtf8 row.body
