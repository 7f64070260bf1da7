-- What comes of rows whose setup is to be amended.
use Rattle.std.specs.Prelude.{◌≡◌, ◌⊎◌, ℕ, List}
use Rattle.field_values.specs.Parts.{Parts}
use Rattle.tracker_keeper.specs.declared.row.Row.{Row}
use Rattle.tracker_keeper.specs.declared.part.Format.{Format}
use Rattle.tracker_keeper.specs.Rows.{Rows, IsListing, no_rows}
use Rattle.tracker_machine.specs.Kept.{rows_of}
use Rattle.tracker_machine.specs.Machine.{Machine, opening}
use Rattle.tracker_rows.specs.Loading.{Loads, IsFirstBad}
use Rattle.amended_rows.specs.Amended.{amended}

-- these are the rows of this tracker, of this format
abbrev pub IsListedAs : Rows → Format → Machine → Type 0
IsListedAs rows format m = (list : List Row) × IsListing rows list × Loads format list m

-- of whichever format: whoever opens them goes on from it
abbrev pub AreOf : Rows → Machine → Type 0
AreOf rows m =
    (list : List Row) × IsListing rows list × ((format : Format) × Loads format list m)

-- the row of that kind and number is the first bad one of these, or the first that has to be among them and isn't
abbrev pub HaveBad : Rows → ℕ → ℕ → Type 0
HaveBad rows kind number = (list : List Row) × IsListing rows list × IsFirstBad list kind number

-- rows became others for a setup that is read from this text: they were a tracker's, were amended, and are a tracker's again
pub record IsAmended (text : List ℕ) (setup : Parts) (rows after : Rows) : Type 0 where
  pub before : Machine
  pub were : AreOf rows before
  pub amended_are : after ≡ amended before text setup
  pub later : Machine
  pub are : AreOf after later

-- what comes of rows: those of a new tracker where there are none, and else the amended ones
abbrev pub ComesOf : List ℕ → Parts → Rows → Rows → Type 0
ComesOf text setup rows after =
    ((rows ≡ no_rows) × (after ≡ rows_of (opening text setup))) ⊎ IsAmended text setup rows after

-- the row of that kind and number stands in the way: among the rows as they are, or where these are a tracker's, among the amended ones
abbrev pub IsInTheWay : List ℕ → Parts → Rows → ℕ → ℕ → Type 0
IsInTheWay text setup rows kind number =
    HaveBad rows kind number
    ⊎ ((before : Machine) × AreOf rows before × HaveBad (amended before text setup) kind number)
