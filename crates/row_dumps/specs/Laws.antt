-- What is proved of all dumps.
use Rattle.std.specs.Prelude.{◌≡◌, ℕ, List}
use Rattle.tracker_keeper.specs.declared.row.Row.{Row}
use Rattle.tracker_keeper.specs.declared.part.Format.{Format}
use Rattle.tracker_keeper.specs.declared.part.Format.TheVariants.{Second}
use Rattle.tracker_keeper.specs.Rows.{found}
use Rattle.tracker_machine.specs.Machine.{Machine}
use Rattle.tracker_machine.specs.Tracker.{IsTracker}
use Rattle.tracker_machine.specs.Kept.{rows_of}
use Rattle.tracker_machine.specs.Members.{IsSetupOf}
use Rattle.tracker_rows.specs.Loading.{Loads, IsFirstBad}
use Rattle.row_lines.specs.Telling.{Tells, IsBadLine}
use Rattle.row_dumps.specs.Dump.{IsDump}

-- the text is restored as this tracker: its lines tell rows that load the tracker and no other, and are just its rows; no line is bad,
-- and no row
pub record RestoresTo (text : List ℕ) (m : Machine) : Type 0 where
  pub list : List Row
  pub told : Tells text list
  pub loads : Loads Second list m
  pub own : found list ≡ rows_of m
  pub one : (other : List Row) (format : Format) (n : Machine) → Tells text other
      → Loads format other n → n ≡ m
  pub good_lines : (number : ℕ) → IsBadLine text number → ⊥
  pub good_rows : (other : List Row) (kind number : ℕ) → Tells text other
      → IsFirstBad other kind number → ⊥

-- what restores a dump of a tracker's rows is the same tracker
abbrev pub DumpsAreRestored : Type 0
DumpsAreRestored =
    (m : Machine) (text : List ℕ) → IsTracker m → IsSetupOf m.text m.setup
    → IsDump (rows_of m) text → RestoresTo text m
