-- A filter's row: by the issue's number, whether the filter holds of it, and the place of the cell's end.
use Rattle.std.specs.Prelude.{ℕ, Bool, List}

-- and for how many issues there is room
pub record RowParts : Type 0 where
  pub filter : ℕ
  pub truths : List Bool
  pub places : List ℕ
  pub room : ℕ
