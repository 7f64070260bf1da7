-- What a crash may leave.
use Rattle.std.specs.Prelude.{◌≡◌, ◌⊎◌}
use Rattle.tracker_keeper.specs.Rows.{Rows, no_rows}
use Rattle.sqlite.specs.State.{State, HasCleanDisk}
use Rattle.sqlite_trees.specs.Tree.{Trees}
use Rattle.keeper_told.specs.Table.{no_schema}
use Rattle.keeper_told.specs.Keeping.{HoldsRows}

-- whatever a crash leaves has just these rows
abbrev pub LeavesJust : State → Rows → Type 0
LeavesJust s rows = (db : Trees) → s.may_leave db → HoldsRows db rows

-- or the one rows or the other
abbrev pub LeavesEither : State → Rows → Rows → Type 0
LeavesEither s one other = (db : Trees) → s.may_leave db → HoldsRows db one ⊎ HoldsRows db other

-- the same, as far as the disk has returned what was written
abbrev pub IsLeaving : State → Rows → Rows → Type 0
IsLeaving s one other = HasCleanDisk s → LeavesEither s one other

-- a crash leaves what it could leave before, or these rows
abbrev pub LeavesOr : State → State → Rows → Type 0
LeavesOr old new rows = (db : Trees) → new.may_leave db → old.may_leave db ⊎ HoldsRows db rows

-- a crash leaves what it could leave before
abbrev pub LeavesAsBefore : State → State → Type 0
LeavesAsBefore old new = (db : Trees) → new.may_leave db → old.may_leave db

-- a crash leaves what it could leave before, or, where there was no table yet, the table without a row
abbrev pub LeavesOrMakes : State → State → Type 0
LeavesOrMakes old new =
    (db : Trees) → new.may_leave db
    → old.may_leave db ⊎ ((old.now.schema ≡ no_schema) × HoldsRows db no_rows)
