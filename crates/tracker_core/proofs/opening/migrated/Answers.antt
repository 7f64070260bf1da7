use Rattle.std.proofs.Common.{◌⊎◌, inl, ◌∙◌, List, subst}
use Rattle.tracker_keeper.specs.declared.row.RowOp.{RowOp}
use Rattle.tracker_keeper.specs.Rows.{with_ops}
use Rattle.tracker_core.proofs.Desks.{small_migrating}
use Rattle.tracker_core.proofs.Left.{some_migrating}
use Rattle.tracker_core.proofs.opening.migrated.Goals as goal

pub commit-requires : goal.commit-requires
commit-requires g c = record { numbers = small_migrating c.deref.result.now c.args.state.machine (c.deref.ensures.value ∙ c.in-Ok.ensures) c.is_tracker.ensures }

pub returns-in-Ok-commit-clause-rows : goal.returns-in-Ok-commit-clause-rows
returns-in-Ok-commit-clause-rows g c = λ kept has.
    subst (λ (ops : List RowOp). g.P.Keeper.keeps c.commit.new.self (with_ops ops kept)) (c.deref.ensures.value ∙ c.in-Ok.ensures) (c.in-Ok-commit.ensures.done kept has)

pub returns-in-Ok-commit-clause-left_ok : goal.returns-in-Ok-commit-clause-left_ok
returns-in-Ok-commit-clause-left_ok g c = λ kept has.
    subst (λ (ops : List RowOp). g.P.Keeper.leaves c.commit.new.self (with_ops ops kept) (with_ops ops kept)) (c.deref.ensures.value ∙ c.in-Ok.ensures) (c.in-Ok-commit.ensures.left_ok kept has)

pub returns-in-Err-clause-left_err : goal.returns-in-Err-clause-left_err
returns-in-Err-clause-left_err g c = λ kept has left.
    let is = c.deref.ensures.value ∙ c.in-Ok.ensures in
    subst (λ (ops : List RowOp). g.P.Keeper.leaves c.commit.new.self kept kept ⊎ g.P.Keeper.leaves c.commit.new.self kept (with_ops ops kept)) is
    (c.in-Err.ensures.left_err (some_migrating c.deref.result.now c.args.state.machine is) kept kept has left)

pub returns-in_default-clause-left_err : goal.returns-in_default-clause-left_err
returns-in_default-clause-left_err g c = λ kept has left. inl left
