-- What is proved of all trackers whose setup is amended.
use Rattle.std.specs.Prelude.{◌≡◌, ℕ, List}
use Rattle.field_values.specs.Parts.{Parts}
use Rattle.tracker_keeper.specs.declared.row.Row.{Row}
use Rattle.tracker_keeper.specs.declared.part.Format.{Format}
use Rattle.tracker_keeper.specs.Rows.{Rows, IsListing, with_ops}
use Rattle.tracker_machine.specs.Machine.{Machine}
use Rattle.tracker_rows.specs.Loading.{Loads}
use Rattle.amended_rows.specs.Amended.{amended, amending_ops}

-- the operations that amend rows make the amended rows of them, of whichever format they are
abbrev pub RowsAreAmended : Type 0
RowsAreAmended =
    (format : Format) (list : List Row) (kept : Rows) (m : Machine) (text : List ℕ) (setup : Parts)
    → Loads format list m → IsListing kept list
    → with_ops (amending_ops m text setup) kept ≡ amended m text setup
