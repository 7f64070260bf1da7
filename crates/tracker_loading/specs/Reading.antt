-- Rows as they are read one by one.
use Rattle.std.specs.Prelude.{◌≡◌, ◌==◌, ◌&&◌, ◌||◌, ◌≤◌, ◌+◌, ◌-◌, ℕ, List, length, take, slice_get, nat_lt, Bool, true, false, Some, Ok}
use Rattle.std.specs.List.Sorted.{IsPartitionPoint}
use Rattle.std.specs.Option.{option_map_or}
use Rattle.field_values.specs.Parts.{Parts}
use Rattle.setup_reading.specs.Reading.{setup_in}
use Rattle.rank_balancer.specs.declared.balance.Balance.{Balance}
use Rattle.tracker_keeper.specs.declared.row.Row.{Row}
use Rattle.tracker_keeper.specs.declared.part.Format.{Format}
use Rattle.tracker_keeper.specs.declared.part.Part.{Part}
use Rattle.tracker_keeper.specs.Kept.{IsRowOf}
use Rattle.tracker_rows.specs.Listed.{InOrder, IsAlone, HasSprintsOf}
use Rattle.tracker_rows.specs.Gathered.{Gathered, standing, with_part}
use Rattle.tracker_rows.specs.Gathered.Gathered.{Nothing, HasSetup, Stands}
use Rattle.tracker_rows.specs.Rules.{MayFollow}
use Rattle.tracker_rows.specs.Loading.{AreRead}
use Rattle.tracker_loading.specs.declared.progress.Progress.{Progress}

-- ---- places

-- the row stands at that place
abbrev pub StandsAt : List Row → ℕ → Row → Type 0
StandsAt rows place row = slice_get rows place ≡ Some row

-- the row has that kind and number
abbrev pub is_of : ℕ → ℕ → Row → Bool
is_of kind number row = (kind == row.kind) && (number == row.no)

-- the other row has the row's kind and number
abbrev pub has_place_of : Row → Row → Bool
has_place_of row other = (row.kind == other.kind) && (row.no == other.no)

-- a row at that place has them
abbrev pub has_twin_at : List Row → ℕ → Row → Bool
has_twin_at rows place row = option_map_or (has_place_of row) (slice_get rows place) false

-- the row before that place or the one behind it has them
abbrev pub has_twin : List Row → ℕ → Row → Bool
has_twin rows place row =
    (nat_lt 0 place && has_twin_at rows (place - 1) row) || has_twin_at rows (place + 1) row

-- the row stands before that kind and number
abbrev pub stands_before : ℕ → ℕ → Row → Bool
stands_before kind number row = nat_lt row.kind kind || ((row.kind == kind) && nat_lt row.no number)

-- so many rows stand before that kind and number
pub record IsFrontBefore (rows : List Row) (kind number count : ℕ) : Type 0 where
  pub within : count ≤ length rows
  pub point : IsPartitionPoint (λ row. stands_before kind number row ≡ true)
      (λ row. stands_before kind number row ≡ false) rows count

-- ---- what has been read

-- what is gathered while a tracker is in the making
abbrev pub gathered_in : Progress → Gathered
gathered_in p = Stands p.format p.told p.made

-- the rows before that place are good one after the other, and lead to this
pub record IsReadTo (rows : List Row) (place : ℕ) (g : Gathered) : Type 0 where
  pub ordered : InOrder rows
  pub read : AreRead rows Nothing (take place rows) g

-- the row is this part's, whatever was gathered before it but the setup: no other row has its kind and number, and the sprints that it
-- names have rows
pub record IsOwnPart (rows : List Row) (setup : Parts) (row : Row) (p : Part) : Type 0 where
  pub alone : IsAlone rows row
  pub tells : IsRowOf setup row.kind row.no row.body p
  pub sprints : HasSprintsOf rows p

-- and it is no other part's
pub record IsOnlyPart (rows : List Row) (setup : Parts) (row : Row) (p : Part) : Type 0 where
  pub own : IsOwnPart rows setup row p
  pub only : (q : Part) → IsOwnPart rows setup row q → q ≡ p

-- the row is the one of a setup, which is this one
pub record IsSetupRow (rows : List Row) (row : Row) (setup : Parts) : Type 0 where
  pub alone : IsAlone rows row
  pub kind_is : row.kind ≡ 1
  pub number_is : row.no ≡ 0
  pub reads : setup_in row.body ≡ Ok setup

-- behind the setup, the part is present's, and tells that a tracker stands there, by rows of that format
pub record IsStanding (rows : List Row) (text : List ℕ) (setup : Parts) (p : Part) (format : Format)
    (balance : Balance) (change moment : ℕ) : Type 0 where
  pub follows : MayFollow rows (HasSetup text setup) p
  pub leads : with_part (HasSetup text setup) p
      ≡ Stands format 0 (standing text setup balance change moment)
