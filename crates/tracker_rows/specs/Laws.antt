-- What is proved of all lists of rows.
use Rattle.std.specs.Prelude.{◌≡◌, ◌++◌, ◌∷◌, [], ℕ, List, Ok}
use Rattle.field_values.specs.Parts.{Parts}
use Rattle.setup_reading.specs.Reading.{setup_in}
use Rattle.tracker_keeper.specs.declared.row.Row.{Row}
use Rattle.tracker_keeper.specs.declared.part.Part.{Part}
use Rattle.tracker_keeper.specs.declared.part.Format.{Format}
use Rattle.tracker_keeper.specs.declared.part.Format.TheVariants.{First, Second}
use Rattle.tracker_keeper.specs.Rows.{Rows, IsListing, with_ops}
use Rattle.tracker_machine.specs.Machine.{Machine}
use Rattle.tracker_machine.specs.Effect.{Effect, applied}
use Rattle.tracker_machine.specs.Tracker.{IsTracker}
use Rattle.tracker_machine.specs.Kept.{rows_of, migrating_ops}
use Rattle.tracker_machine.specs.Members.{IsSetupOf}
use Rattle.tracker_rows.specs.Gathered.{Gathered, with_part}
use Rattle.tracker_rows.specs.Gathered.Gathered.{Nothing}
use Rattle.tracker_rows.specs.Loading.{IsInTime, IsGood, AreRead, Loads, IsFirstBad}

-- ---- from row to row

-- good rows with one more good one lead to what was gathered with its part
abbrev pub GoodRowsLeadOn : Type 0
GoodRowsLeadOn =
    (rows front : List Row) (mid : Gathered) (row : Row) (p : Part) → AreRead rows Nothing front mid
    → IsInTime mid row
    → IsGood rows mid row p → AreRead rows Nothing (front ++ row ∷ []) (with_part mid p)

-- ---- what rows load

-- what rows load is a tracker
abbrev pub LoadedAreTrackers : Type 0
LoadedAreTrackers =
    (format : Format) (rows : List Row) (m : Machine) → Loads format rows m → IsTracker m

-- and its setup is that of its text, but for who is in its groups
abbrev pub LoadedSetupsAreTheirTexts : Type 0
LoadedSetupsAreTheirTexts =
    (format : Format) (rows : List Row) (m : Machine) → Loads format rows m
    → IsSetupOf m.text m.setup

-- in rows of the first format the groups have the members that the text gives them
abbrev pub FirstRowsHaveTheirMembers : Type 0
FirstRowsHaveTheirMembers =
    (rows : List Row) (m : Machine) → Loads First rows m → setup_in m.text ≡ Ok m.setup

-- its rows are those, where they are of the second format
abbrev pub LoadedRowsAreTheirs : Type 0
LoadedRowsAreTheirs =
    (rows : List Row) (m : Machine) → Loads Second rows m → IsListing (rows_of m) rows

-- and rows of the first format become its rows by the operations that migrate them
abbrev pub MigratedRowsAreTheirs : Type 0
MigratedRowsAreTheirs =
    (rows : List Row) (kept : Rows) (m : Machine) → Loads First rows m → IsListing kept rows
    → with_ops (migrating_ops m) kept ≡ rows_of m

-- ---- what loads

-- the rows of each tracker load it
abbrev pub TrackersLoad : Type 0
TrackersLoad =
    (m : Machine) (rows : List Row) → IsTracker m → IsSetupOf m.text m.setup
    → IsListing (rows_of m) rows → Loads Second rows m

-- what the law asks of a tracker's setup holds of a new tracker, and stays with each effect
abbrev pub NewTrackersHaveTheirSetups : Type 0
NewTrackersHaveTheirSetups =
    (text : List ℕ) (setup : Parts) → setup_in text ≡ Ok setup → IsSetupOf text setup

abbrev pub EffectsKeepSetups : Type 0
EffectsKeepSetups =
    (effect : Effect) (m : Machine) → IsSetupOf m.text m.setup
    → IsSetupOf (applied effect m).text (applied effect m).setup

-- ---- one or the other

-- rows load one tracker at most
abbrev pub RowsLoadOne : Type 0
RowsLoadOne =
    (format other_format : Format) (rows : List Row) (one other : Machine) → Loads format rows one
    → Loads other_format rows other
    → (one ≡ other) × (format ≡ other_format)

-- one row at most is the first bad one
pub record IsSameRow (kind number other_kind other_number : ℕ) : Type 0 where
  pub kind_is : kind ≡ other_kind
  pub number_is : number ≡ other_number

abbrev pub FirstBadIsOne : Type 0
FirstBadIsOne =
    (rows : List Row) (kind number other_kind other_number : ℕ) → IsFirstBad rows kind number
    → IsFirstBad rows other_kind other_number → IsSameRow kind number other_kind other_number

-- and rows that load a tracker have none
abbrev pub LoadedHaveNoBad : Type 0
LoadedHaveNoBad =
    (format : Format) (rows : List Row) (m : Machine) (kind number : ℕ) → Loads format rows m
    → IsFirstBad rows kind number → ⊥
