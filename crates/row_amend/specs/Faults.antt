-- Why rows are not amended, and by which operations they are.
use Rattle.std.specs.Prelude.{◌≡◌, ◌<◌, ◌^◌, ℕ, List}
use Rattle.std.specs.List.{All}
use Rattle.field_values.specs.Parts.{Parts}
use Rattle.tracker_keeper.specs.declared.row.RowOp.{RowOp}
use Rattle.tracker_keeper.specs.Rows.{Rows, number_of, with_ops}
use Rattle.tracker_machine.specs.Machine.{Machine}
use Rattle.amended_rows.specs.Amended.{amended}
use Rattle.amended_rows.specs.Amending.{AreOf, HaveBad, IsInTheWay}
use Rattle.row_amend.specs.declared.fault.AmendFault.{AmendFault}
use Rattle.row_amend.specs.declared.fault.AmendFault.TheVariants.{Keeper, BadRow, Memory}

-- a fault of rows in memory: a row that is told is the first bad one
abbrev pub IsRowFault : Rows → AmendFault → Type 0
IsRowFault rows Keeper = ⊥
IsRowFault rows (BadRow kind number) = HaveBad rows kind number
IsRowFault rows Memory = Unit {0}

-- a row that is told stands in the way of a setup that is read from this text
abbrev pub IsAmendFault : List ℕ → Parts → Rows → AmendFault → Type 0
IsAmendFault text setup rows Keeper = Unit {0}
IsAmendFault text setup rows (BadRow kind number) = IsInTheWay text setup rows kind number
IsAmendFault text setup rows Memory = Unit {0}

-- these operations amend the rows, which are a tracker's
pub record AreAmendedBy (text : List ℕ) (setup : Parts) (rows : Rows) (ops : List RowOp) : Type 0 where
  pub before : Machine
  pub were : AreOf rows before
  pub amended_are : with_ops ops rows ≡ amended before text setup

-- the numbers of their rows are those that a keeper takes
abbrev pub AreSmall : List RowOp → Type 0
AreSmall ops = All (λ op. number_of op < 2 ^ 63) ops
