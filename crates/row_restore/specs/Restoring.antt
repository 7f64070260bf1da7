-- What is restored of lines, and why nothing is.
use Rattle.std.specs.Prelude.{ℕ, List}
use Rattle.tracker_keeper.specs.declared.row.Row.{Row}
use Rattle.tracker_keeper.specs.declared.part.Format.{Format}
use Rattle.tracker_machine.specs.Machine.{Machine}
use Rattle.tracker_rows.specs.Loading.{Loads, IsFirstBad}
use Rattle.row_lines.specs.Telling.{Tells, IsBadLine}
use Rattle.row_restore.specs.declared.restoring.RestoreFault.{RestoreFault}
use Rattle.row_restore.specs.declared.restoring.RestoreFault.TheVariants.{Keeper, BadLine, BadRow, Memory}

-- these are the rows of a tracker, of either format
abbrev pub AreOfTracker : List Row → Type 0
AreOfTracker list = (format : Format) × (m : Machine) × Loads format list m

-- the lines of these bytes tell these rows, which are a tracker's
pub record IsBackup (bytes : List ℕ) (list : List Row) : Type 0 where
  pub told : Tells bytes list
  pub of_tracker : AreOfTracker list

-- why nothing is restored: the first bad line is told, or where all are good the first bad row, or the first that is missing
abbrev pub IsRestoreFault : List ℕ → RestoreFault → Type 0
IsRestoreFault bytes Keeper = Unit {0}
IsRestoreFault bytes (BadLine number) = IsBadLine bytes number
IsRestoreFault bytes (BadRow kind number) =
    (list : List Row) × Tells bytes list × IsFirstBad list kind number
IsRestoreFault bytes Memory = Unit {0}
