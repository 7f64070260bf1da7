-- What may be found behind an end, in words of rows.
use Rattle.std.proofs.Common.{◌≡◌, ◌⊎◌, inl, inr}
use Rattle.std.proofs.Math.Logic.{∥∥₁_map}
use Rattle.tracker_keeper.specs.Rows.{Rows}
use Rattle.sqlite_trees.specs.Tree.{Trees}
use Rattle.sqlite_wal.specs.Recovery.{Image}
use Rattle.sqlite.specs.State.{State}
use Rattle.sqlite.specs.Files.{HoldsDatabase}
use Rattle.keeper_told.specs.Crash.{LeavesEither}
use Rattle.keeper_told.specs.Reopening.{HoldsTold}

-- a database that the connection could leave has the one rows or the other
pub told_either : (s : State) (one other : Rows) (image : Image) → LeavesEither s one other → ∥ ((db : Trees) × s.may_leave db × HoldsDatabase image db) ∥₁
    → ∥ (HoldsTold image one ⊎ HoldsTold image other) ∥₁
told_either s one other image leaves found =
    ∥∥₁_map found (λ db. elim (leaves db.0 db.1) [
      | inl first ↦ inl (record { trees = db.0; database = ∣ db.2 ∣₁; held = first })
      | inr second ↦ inr (record { trees = db.0; database = ∣ db.2 ∣₁; held = second })
    ])
