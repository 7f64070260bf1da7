-- What the two files of a database hold, and what a run leaves for the next.
use Rattle.std.specs.Prelude.{[]}
use Rattle.tracker_keeper.specs.Rows.{Rows}
use Rattle.sqlite_trees.specs.Tree.{Trees}
use Rattle.sqlite_wal.specs.Recovery.{Image}
use Rattle.sqlite.specs.Files.{HoldsDatabase}
use Rattle.keeper_told.specs.Keeping.{HoldsRows}

-- the files hold a database that has these rows
pub record HoldsTold (image : Image) (rows : Rows) : Type 0 where
  pub trees : Trees
  pub database : ∥ HoldsDatabase image trees ∥₁
  pub held : HoldsRows trees rows

-- the last commit is in the database file alone, and with its log
abbrev pub AloneHas : Image → Rows → Type 0
AloneHas image rows = HoldsTold image rows × HoldsTold (record image { log = [] }) rows
