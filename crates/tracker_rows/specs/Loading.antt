-- Which rows are a tracker's, and which row is the first bad one.
use Rattle.std.specs.Prelude.{◌≡◌, ◌⊎◌, ℕ, List, [], ◌∷◌, ◌++◌, Some, None, IfSome}
use Rattle.std.specs.List.{All}
use Rattle.field_values.specs.Parts.{Parts}
use Rattle.tracker_keeper.specs.declared.row.Row.{Row}
use Rattle.tracker_keeper.specs.declared.part.Format.{Format}
use Rattle.tracker_keeper.specs.declared.part.Part.{Part}
use Rattle.tracker_keeper.specs.Kept.{IsRowOf}
use Rattle.tracker_machine.specs.Machine.{Machine}
use Rattle.tracker_rows.specs.Listed.{InOrder, IsAhead, IsAlone, HasSprintsOf}
use Rattle.tracker_rows.specs.Gathered.{Gathered, with_part, due}
use Rattle.tracker_rows.specs.Gathered.Gathered.{Nothing, HasSetup, Stands}
use Rattle.tracker_rows.specs.Rules.{MayFollow}

-- ---- one row

-- the row is this part's: its kind is known, its number is one of its kind, and its body is the part's one text. The setup spells the
-- names; a setup's own row is the same by any setup
abbrev pub Tells : Gathered → Row → Part → Type 0
Tells Nothing row p = (setup : Parts) × IsRowOf setup row.kind row.no row.body p
Tells (HasSetup text setup) row p = IsRowOf setup row.kind row.no row.body p
Tells (Stands format told m) row p = IsRowOf m.setup row.kind row.no row.body p

-- no row is missing before this one
abbrev pub IsInTime : Gathered → Row → Type 0
IsInTime g row = IfSome (due g) (λ wanted. ¬ IsAhead wanted.0 wanted.1 row)

-- the row is good after what was gathered, and is this part's
pub record IsGood (rows : List Row) (g : Gathered) (row : Row) (p : Part) : Type 0 where
  -- no other row has its kind and number
  pub alone : IsAlone rows row
  -- it is of a known kind, has one of its numbers and a body of its form
  pub tells : Tells g row p
  -- the sprints that it names have rows
  pub sprints : HasSprintsOf rows p
  -- it breaks no rule
  pub follows : MayFollow rows g p

-- ---- rows that are good

-- these rows are good one after the other, where `rows` are all of them, and lead from one to the other
abbrev pub AreRead : List Row → Gathered → List Row → Gathered → Type 0
AreRead rows g [] after = after ≡ g
AreRead rows g (row ∷ more) after =
    IsInTime g row × ((p : Part) × IsGood rows g row p × AreRead rows (with_part g p) more after)

-- the rows, which are of this format, make this tracker: all are good, and none is missing at their end
pub record Loads (format : Format) (rows : List Row) (m : Machine) : Type 0 where
  pub ordered : InOrder rows
  pub told : ℕ
  pub read : AreRead rows Nothing rows (Stands format told m)
  pub whole : due (Stands format told m) ≡ None

-- ---- the first bad row

-- the row of that kind and number has to be there, and isn't: all that are left stand behind it
pub record IsMissing (g : Gathered) (left : List Row) (kind number : ℕ) : Type 0 where
  pub due_is : due g ≡ Some (kind, number)
  pub behind : All (IsAhead kind number) left

-- the row is there in time, and is bad: it is good as no part
pub record IsBad (rows : List Row) (g : Gathered) (row : Row) (kind number : ℕ) : Type 0 where
  pub kind_is : row.kind ≡ kind
  pub number_is : row.no ≡ number
  pub in_time : IsInTime g row
  pub bad : (p : Part) → ¬ IsGood rows g row p

-- so is the first of those that are left
abbrev pub IsBadNext : List Row → Gathered → List Row → ℕ → ℕ → Type 0
IsBadNext rows g [] kind number = ⊥
IsBadNext rows g (row ∷ more) kind number = IsBad rows g row kind number

-- the first bad row, or the first missing one where that would stand before it: all rows before it are good
pub record IsFirstBad (rows : List Row) (kind number : ℕ) : Type 0 where
  pub ordered : InOrder rows
  pub front : List Row
  pub left : List Row
  pub apart : rows ≡ front ++ left
  pub gathered : Gathered
  pub read : AreRead rows Nothing front gathered
  pub next : IsMissing gathered left kind number ⊎ IsBadNext rows gathered left kind number
