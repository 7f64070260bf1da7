use Rattle.std.proofs.Common.{sym, subst}
use Rattle.tracker_machine.specs.Machine.{Machine}
use Rattle.tracker_machine.specs.Kept.{rows_of}
use Rattle.tracker_core.specs.Desk.{IsOpened}
use Rattle.tracker_core.proofs.desk.Desk.open.Goals as goal

pub returns-in-Ok-clause-opened : goal.returns-in-Ok-clause-opened
returns-in-Ok-clause-opened g c = λ rows kept told.
    subst (IsOpened _ rows) (sym c.over.ensures.machine) (c.in-Ok.ensures.opened rows kept (subst g.P.Keeper.tells c.over.ensures.keeper told))

pub returns-in-Ok-clause-rows : goal.returns-in-Ok-clause-rows
returns-in-Ok-clause-rows g c = λ rows kept told.
    subst (λ k. g.P.Keeper.keeps k (rows_of c.over.result.machine)) (sym c.over.ensures.keeper)
    (subst (λ (m : Machine). g.P.Keeper.keeps c.opened-opened.new.keeper (rows_of m)) (sym c.over.ensures.machine)
    (c.in-Ok.ensures.rows rows kept (subst g.P.Keeper.tells c.over.ensures.keeper told)))

pub returns-in-Ok-clause-left_ok : goal.returns-in-Ok-clause-left_ok
returns-in-Ok-clause-left_ok g c = λ rows kept left told.
    subst (λ k. g.P.Keeper.leaves k (rows_of c.over.result.machine) (rows_of c.over.result.machine)) (sym c.over.ensures.keeper)
    (subst (λ (m : Machine). g.P.Keeper.leaves c.opened-opened.new.keeper (rows_of m) (rows_of m)) (sym c.over.ensures.machine)
    (c.in-Ok.ensures.left_ok rows kept left (subst g.P.Keeper.tells c.over.ensures.keeper told)))

pub returns-in-Err-clause-left_err : goal.returns-in-Err-clause-left_err
returns-in-Err-clause-left_err g c = λ rows kept left told. c.in-Err.ensures.left_err rows kept left told
