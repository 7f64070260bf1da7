-- What a crash may leave of a tracker whose rows a keeper has.
use Rattle.std.specs.Prelude.{◌≡◌, ◌⊎◌, ℕ, List}
use Rattle.tracker_calls.specs.declared.call.Call.{Call}
use Rattle.tracker_keeper.specs.Rows.{Rows}
use Rattle.tracker_machine.specs.Machine.{Machine}
use Rattle.tracker_machine.specs.Kept.{rows_of}
use Rattle.tracker_machine.specs.Step.{next_of}
use Rattle.tracker_machine.specs.Tracker.{IsTracker}
use Rattle.tracker_core.specs.Desk.{HasNoRow, IsOpened}

-- ---- from call to call

-- the tracker with one call more
abbrev pub IsWithCall : List ℕ → Call → Machine → Machine → Type 0
IsWithCall caller c m later = later ≡ next_of m caller c

-- which tracker may be left now beside the present one, `new`, where it was `old`, and beside it `before` might be left: none other; or,
-- where nothing was kept since, that one; or the present one with more, of which `More` tells
abbrev pub IsLeft : (Machine → Machine → Type 0) → Machine → Machine → Machine → Machine → Type 0
IsLeft More old new before later =
    (later ≡ new) ⊎ ((new ≡ old) × (later ≡ before)) ⊎ More new later

-- from one moment to a later one a crash leaves the present tracker, or one such other
abbrev pub LeavesOn : {P : Type 0} → (P → Rows → Rows → Type 0) → (Machine → Machine → Type 0) → P
    → Machine → P → Machine → Type 0
LeavesOn leaves More old_keeper old new_keeper new =
    (before : Machine) → IsTracker before → leaves old_keeper (rows_of old) (rows_of before)
    → (later : Machine) × IsTracker later × IsLeft More old new before later
    × leaves new_keeper (rows_of new) (rows_of later)

-- ---- where a tracker begins

-- a crash leaves just the rows of this tracker
abbrev pub LeavesJustIts : {P : Type 0} → (P → Rows → Rows → Type 0) → P → Machine → Type 0
LeavesJustIts leaves keeper m = leaves keeper (rows_of m) (rows_of m)

-- a crash leaves these rows, or those of a tracker that began in them
abbrev pub LeavesBegun : {P : Type 0} → (P → Rows → Rows → Type 0) → (Machine → Type 0) → P → Rows
    → Type 0
LeavesBegun leaves Begins keeper rows =
    leaves keeper rows rows ⊎ ((m : Machine) × Begins m × leaves keeper rows (rows_of m))

-- these rows, or those of the tracker that they make: of a new one of that setup, or of the second format
abbrev pub LeavesOpened : {P : Type 0} → (P → Rows → Rows → Type 0) → List ℕ → P → Rows → Type 0
LeavesOpened leaves setup_text keeper rows =
    LeavesBegun leaves (IsOpened setup_text rows) keeper rows

-- these rows, or, where there are none, those of this tracker
abbrev pub LeavesCreated : {P : Type 0} → (P → Rows → Rows → Type 0) → Machine → P → Rows → Type 0
LeavesCreated leaves m keeper rows =
    LeavesBegun leaves (λ made. HasNoRow rows × (made ≡ m)) keeper rows

-- ---- behind calls

-- a crash leaves the rows of this tracker, or those of it with more, of which `More` tells
abbrev pub LeavesWithOne : {P : Type 0} → (P → Rows → Rows → Type 0)
    → (Machine → Machine → Type 0) → P → Machine → Type 0
LeavesWithOne leaves More keeper m =
    (later : Machine) × IsTracker later × ((later ≡ m) ⊎ More m later)
    × leaves keeper (rows_of m) (rows_of later)
