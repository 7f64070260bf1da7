-- What a crash may leave, from call to call.
use Rattle.std.proofs.Common.{◌≡◌, inl, inr, Bool, true, false, ℕ, None, IsTrue, Ok, Err, Result, OnOk, OnErr, refl, sym, ap, subst}
use Rattle.std.specs.Prelude.{◌⊎◌}
use mathlib.Core.Path.{fun_ext}
use Rattle.tracker_keeper.specs.Rows.{Rows, no_rows}
use Rattle.sqlite_trees.specs.Tree.{Trees}
use Rattle.sqlite.specs.Effect.{Database}
use Rattle.sqlite.specs.State.{State, HasCleanDisk, IsLive}
use Rattle.keeper_told.specs.Keeping.{HoldsRows, Keeps, IsKeeping}
use Rattle.keeper_told.specs.Crash.{LeavesJust, IsLeaving, LeavesOr, LeavesOrMakes, LeavesAsBefore}
use Rattle.keeper_told.proofs.Making.{bare_of}

-- a crash leaves the last commit alone, where the connection is open
abbrev pub IsSettled : State → Type 0
IsSettled s = (db : Trees) → IsTrue s.is_open → s.may_leave db → db ≡ s.committed.trees

pub committed_holds : (s : State) (rows : Rows) → IsTrue s.is_open → IsLive s → Keeps s rows → HoldsRows s.committed.trees rows
committed_holds s rows opened live k =
    subst (λ t. HoldsRows t rows) (sym (ap (λ (d : Database). d.trees) k.settled)) (record { schema = s.now.schema; sound = (live opened).0; stored = k.stored })

just_left : (s : State) (rows : Rows) → IsTrue s.is_open → IsLive s → IsSettled s → Keeps s rows → LeavesJust s rows
just_left s rows opened live settled k db may = subst (λ t. HoldsRows t rows) (sym (settled db opened may)) (committed_holds s rows opened live k)

pub just_leaving : {X E : Type 0} (s : State) (r : Result X E) (rows : Rows) → (HasCleanDisk s → OnOk r (LeavesJust s rows)) → OnOk r (IsLeaving s rows rows)
just_leaving s (Ok x) rows just = λ clean db may. inl (just clean db may)
just_leaving s (Err e) rows just = tt

pub either_leaving : {X E : Type 0} (old new : State) (r : Result X E) (rows after other : Rows) → IsLive old → IsSettled old → IsKeeping old rows → (HasCleanDisk new → HasCleanDisk old)
    → (HasCleanDisk new → IsTrue old.is_open → LeavesOr old new after) → (HasCleanDisk new → old.is_open ≡ false → LeavesAsBefore old new) → IsLeaving old rows other
    → OnErr r (IsLeaving new rows other ⊎ IsLeaving new rows after)
either_leaving old new (Ok x) rows after other live settled keeping was more shut leaving = tt
either_leaving old new (Err e) rows after other live settled keeping was more shut leaving = go old.is_open refl
  where
    go : (b : Bool) → old.is_open ≡ b → IsLeaving new rows other ⊎ IsLeaving new rows after
    go true opened = inr (λ clean db may. elim (more clean opened db may) [
      | inl before ↦ inl (just_left old rows opened live settled (keeping (was clean) opened) db before)
      | inr now ↦ inr now
    ])
    go false closed = inl (λ clean db may. leaving (was clean) db (shut clean closed db may))

no_row : (rows : Rows) → ((kind number : ℕ) → rows kind number ≡ None) → no_rows ≡ rows
no_row rows none = fun_ext (λ kind. fun_ext (λ number. sym (none kind number)))

pub rows_leaving : (old new : State) (rows other : Rows) → IsKeeping old rows → (HasCleanDisk new → HasCleanDisk old) → (HasCleanDisk new → LeavesOrMakes old new)
    → (HasCleanDisk new → old.is_open ≡ false → LeavesAsBefore old new) → IsLeaving old rows other → IsLeaving new rows other
rows_leaving old new rows other keeping was makes shut leaving clean db may = go old.is_open refl
  where
    go : (b : Bool) → old.is_open ≡ b → HoldsRows db rows ⊎ HoldsRows db other
    go true opened = elim (makes clean db may) [
      | inl before ↦ leaving (was clean) db before
      | inr made ↦ inl (subst (HoldsRows db) (no_row rows (bare_of old.now rows made.0 (keeping (was clean) opened).stored).none) made.1)
    ]
    go false closed = leaving (was clean) db (shut clean closed db may)
