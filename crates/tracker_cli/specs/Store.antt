-- One of two keepers: what it tells, and what a crash leaves of it, is what that one tells and what a crash leaves of that.
use Rattle.std.specs.Prelude.{ℕ}
use Rattle.tracker_keeper.specs.Rows.{Rows}
use Rattle.tracker_cli.specs.declared.store.Store.{Store}
use Rattle.tracker_cli.specs.declared.store.Store.TheVariants as store

abbrev pub faults_of : {M F : Type 0} → (M → ℕ) → (F → ℕ) → Store M F → ℕ
faults_of of_memory of_file (store.Memory keeper) = of_memory keeper
faults_of of_memory of_file (store.File keeper) = of_file keeper

abbrev pub TellsOf : {M F : Type 0} → (M → Type 0) → (F → Type 0) → Store M F → Type 0
TellsOf of_memory of_file (store.Memory keeper) = of_memory keeper
TellsOf of_memory of_file (store.File keeper) = of_file keeper

abbrev pub KeepsOf : {M F : Type 0} → (M → Rows → Type 0) → (F → Rows → Type 0) → Store M F → Rows
    → Type 0
KeepsOf of_memory of_file (store.Memory keeper) rows = of_memory keeper rows
KeepsOf of_memory of_file (store.File keeper) rows = of_file keeper rows

abbrev pub LeavesOf : {M F : Type 0} → (M → Rows → Rows → Type 0) → (F → Rows → Rows → Type 0)
    → Store M F → Rows → Rows → Type 0
LeavesOf of_memory of_file (store.Memory keeper) rows other = of_memory keeper rows other
LeavesOf of_memory of_file (store.File keeper) rows other = of_file keeper rows other
