-- Why rows load no tracker.
use Rattle.std.specs.Prelude.{List}
use Rattle.tracker_keeper.specs.declared.row.Row.{Row}
use Rattle.tracker_rows.specs.Loading.{IsFirstBad}
use Rattle.tracker_loading.specs.declared.loading.LoadFault.{LoadFault}
use Rattle.tracker_loading.specs.declared.loading.LoadFault.TheVariants.{BadRow, Memory}

-- a bad row is the first one
abbrev pub IsFault : List Row → LoadFault → Type 0
IsFault rows (BadRow kind number) = IsFirstBad rows kind number
IsFault rows Memory = Unit {0}
