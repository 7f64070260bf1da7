-- What a run leaves for the next.
use Rattle.std.proofs.Common.{◌≡◌, ◌⊎◌, inl, inr, Bool, Ok, Err, Result, OnOk, is_ok, IsTrue}
use Rattle.std.proofs.Math.Logic.{∥∥₁_map}
use Rattle.std.specs.Prelude.{MatchBool}
use Rattle.tracker_keeper.specs.Rows.{Rows}
use Rattle.sqlite_disk.specs.declared.Disk.{Ghosts}
use Rattle.sqlite_disk.specs.declared.Files.{Files}
use Rattle.sqlite_trees.specs.Tree.{Trees}
use Rattle.sqlite_wal.specs.Recovery.{Image}
use Rattle.sqlite_wal.specs.Files.{outcomes}
use Rattle.sqlite_store.specs.declared.store.FileStore.{FileStore}
use Rattle.sqlite_store.specs.FileStore as store
use Rattle.sqlite.specs.State.{State, IsLive}
use Rattle.sqlite.specs.Held.{Held, AreDatabases}
use Rattle.sqlite.specs.Files.{file_state}
use Rattle.sqlite.specs.Closing.{IsCopied}
use Rattle.sqlite.proofs.Theorems.{opens_again}
use Rattle.keeper_told.specs.Keeping.{IsKeeping}
use Rattle.keeper_told.specs.Crash.{LeavesJust, LeavesOr, LeavesEither}
use Rattle.keeper_told.specs.Reopening.{HoldsTold, AloneHas}
use Rattle.keeper_told.proofs.Leaving.{committed_holds}

-- whatever a crash leaves of the files holds one of the databases that the connection could leave
pub left_again : {D : Type 0} {g : Ghosts D} (it : FileStore D g) → IsTrue (store.view it).is_numbered → AreDatabases (store.recovers it) → (s : State)
    → ((db : Trees) → store.recovers it db → s.may_leave db) → (one other : Rows) → LeavesEither s one other → (image : Image) → (store.state it).may_leave image
    → ∥ (HoldsTold image one ⊎ HoldsTold image other) ∥₁
left_again it numbered sound s back one other leaves image may =
    ∥∥₁_map (opens_again it numbered sound image may) (λ db. elim (leaves db.0 (back db.0 db.1)) [
      | inl first ↦ inl (record { trees = db.0; database = ∣ db.2 ∣₁; held = first })
      | inr second ↦ inr (record { trees = db.0; database = ∣ db.2 ∣₁; held = second })
    ])

pub alone_has : {D : Type 0} {g : Ghosts D} (c : Held (FileStore D g)) (files : Files D) (rows : Rows) → IsCopied c files → IsLive (file_state c) → IsKeeping (file_state c) rows
    → (image : Image) → outcomes g files.log files.db image → AloneHas image rows
alone_has c files rows copied live keeping image may =
    let s = file_state c in
    let held = committed_holds s rows copied.was_open live (keeping copied.was_clean copied.was_open) in
    let both = copied.left image may in
    (record { trees = s.committed.trees; database = both.both; held = held }, record { trees = s.committed.trees; database = both.alone; held = held })

-- what a run with one commit leaves, by whether it was acknowledged
pub once_left : {X E : Type 0} (old new : State) (r : Result X E) (done : Bool) (rows after : Rows) (image : Image) → done ≡ is_ok r → LeavesJust old rows → OnOk r (LeavesJust new after)
    → LeavesOr old new after → ((one other : Rows) → LeavesEither new one other → ∥ (HoldsTold image one ⊎ HoldsTold image other) ∥₁)
    → MatchBool done (∥ HoldsTold image after ∥₁) (∥ (HoldsTold image rows ⊎ HoldsTold image after) ∥₁)
once_left old new (Ok x) done rows after image is before just more holds =
    rw is (∥∥₁_map (holds after after (λ db may. inl (just db may))) (λ e. elim e [ inl a ↦ a | inr b ↦ b ]))
once_left old new (Err e) done rows after image is before just more holds =
    rw is (holds rows after (λ db may. elim (more db may) [ inl was ↦ inl (before db was) | inr now ↦ inr now ]))
