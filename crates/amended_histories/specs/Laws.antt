-- What is proved of all trackers whose setup was amended.
use Rattle.std.specs.Prelude.{ℕ, List}
use Rattle.field_values.specs.Parts.{Parts}
use Rattle.tracker_keeper.specs.Rows.{Rows}
use Rattle.amended_rows.specs.Amending.{IsAmended}
use Rattle.amended_histories.specs.Telling.{TellTheSame}

-- every issue's history tells the same
abbrev pub HistoriesTellTheSame : Type 0
HistoriesTellTheSame =
    (text : List ℕ) (setup : Parts) (rows after : Rows) → (is : IsAmended text setup rows after)
    → TellTheSame is.before is.later
