-- A list of rows: its order, and what is looked up among all of them.
use Rattle.std.specs.Prelude.{◌≡◌, ◌≢◌, ◌<◌, ◌==◌, ◌&&◌, ◌||◌, ◌⊎◌, ℕ, List, [], ◌∷◌, None, AllPairs, count_by}
use Rattle.field_values.specs.declared.value.Value.{Value}
use Rattle.field_values.specs.declared.value.Value.TheVariants as value
use Rattle.change_history.specs.declared.change.Change.{Change}
use Rattle.change_history.specs.declared.entry.Entry.{Entry}
use Rattle.tracker_keeper.specs.declared.row.Row.{Row}
use Rattle.tracker_keeper.specs.declared.part.Part.{Part}
use Rattle.tracker_keeper.specs.declared.part.Part.TheVariants as part
use Rattle.tracker_keeper.specs.Rows.{IsBelow, found}

-- ---- the order

-- rows stand by kind and then number; so far two may have one kind and number
abbrev pub InOrder : List Row → Type 0
InOrder rows = AllPairs (λ one other. ¬ IsBelow other one) rows

-- a row of that kind and number would stand before this one
abbrev pub IsAhead : ℕ → ℕ → Row → Type 0
IsAhead kind number row = (kind < row.kind) ⊎ ((kind ≡ row.kind) × (number < row.no))

-- ---- look-ups

-- no other row has this one's kind and number
abbrev pub IsAlone : List Row → Row → Type 0
IsAlone rows row = count_by (λ other. (row.kind == other.kind) && (row.no == other.no)) rows ≡ 1

-- there is a row of that kind and number, whether it is good or not
abbrev pub HasRow : List Row → ℕ → ℕ → Type 0
HasRow rows kind number = found rows kind number ≢ None

-- how many rows of issues and of change groups there are
abbrev pub changes_in : List Row → ℕ
changes_in rows = count_by (λ row. (row.kind == 3) || (row.kind == 4)) rows

-- ---- sprints that are named

-- a value that names a sprint names one that has a row
abbrev pub HasSprint : List Row → Value → Type 0
HasSprint rows (value.Sprint sprint) = HasRow rows 7 sprint.0
HasSprint rows _ = Unit {0}

-- so does each opening value
abbrev pub OpenInRows : List Row → List Change → Type 0
OpenInRows rows [] = Unit {0}
OpenInRows rows (c ∷ cs) = HasSprint rows c.to × OpenInRows rows cs

-- and each side of each entry
abbrev pub ChangeInRows : List Row → List Entry → Type 0
ChangeInRows rows [] = Unit {0}
ChangeInRows rows (e ∷ es) = HasSprint rows e.from × HasSprint rows e.to × ChangeInRows rows es

-- the sprints that a part names have rows. These stand behind it, so they are looked up among all rows; an issue or a filter that a
-- part names has its row before it, and is looked up among what was gathered
abbrev pub HasSprintsOf : List Row → Part → Type 0
HasSprintsOf rows (part.Issue issue key change at author values) = OpenInRows rows values
HasSprintsOf rows (part.Group issue group) = ChangeInRows rows group.entries
HasSprintsOf rows _ = Unit {0}
