use Rattle.std.proofs.Common.{◌≡◌, [], List, inl, ◌∙◌, sym, subst}
use Rattle.tracker_keeper.specs.declared.row.Row.{Row}
use Rattle.tracker_keeper.specs.Rows.{Rows, IsListing}
use Rattle.tracker_core.specs.Desk.{HasNoRow}
use Rattle.tracker_core.proofs.Kept.{no_row, without_rows, loaded_opens, new_opens, new_keeps, bad_opens}
use Rattle.tracker_core.proofs.Left.{new_opened, loaded_opened}
use Rattle.tracker_core.proofs.opening.opened.Goals as goal

none : (rows : Rows) (list lent : List Row) → lent ≡ list → lent ≡ [] → IsListing rows list → HasNoRow rows
none rows list lent is empty listing = no_row rows (subst (IsListing rows) (sym is ∙ empty) listing)

pub returns-then-has_none-clause-opened : goal.returns-then-has_none-clause-opened
returns-then-has_none-clause-opened g c = λ rows kept.
    new_opens (λ s. s.machine) c.new_tracker.result _ rows
    (λ told. none rows _ _ c.deref.ensures.value (c.has_none.ensures.none c.if-has_none.true) (c.in-Ok.ensures.rows (c.new_tracker.ensures.told told) rows kept))
    c.new_tracker.ensures.state

pub returns-then-has_none-clause-rows : goal.returns-then-has_none-clause-rows
returns-then-has_none-clause-rows g c = λ rows kept.
    new_keeps c.new_tracker.result _
    (λ told. subst (g.P.Keeper.keeps c.rows.new.self)
    (without_rows rows
    (none rows _ _ c.deref.ensures.value (c.has_none.ensures.none c.if-has_none.true) (c.in-Ok.ensures.rows (c.new_tracker.ensures.told told) rows kept)))
    (c.in-Ok.ensures.same rows kept))
    c.new_tracker.ensures.rows

pub returns-in-Ok-clause-opened : goal.returns-in-Ok-clause-opened
returns-in-Ok-clause-opened g c = λ rows kept.
    loaded_opens (λ s. s.machine) c.resumed.result _ rows _
    (λ told. subst (IsListing rows) (sym c.deref-else-has_none.ensures.value) (c.in-Ok.ensures.rows (c.resumed.ensures.told told) rows kept)) c.resumed.ensures.loads

pub returns-in-Ok-clause-rows : goal.returns-in-Ok-clause-rows
returns-in-Ok-clause-rows g c = λ rows kept.
    new_keeps c.resumed.result _
    (λ told. subst (IsListing rows) (sym c.deref-else-has_none.ensures.value) (c.in-Ok.ensures.rows (c.resumed.ensures.told told) rows kept))
    (c.resumed.ensures.rows rows (c.in-Ok.ensures.same rows kept))

pub returns-in-Ok-clause-fault : goal.returns-in-Ok-clause-fault
returns-in-Ok-clause-fault g c =
    bad_opens c.resumed.result g.P.Keeper.keeps g.P.Keeper.tells c.args.keeper.now c.resumed.new.keeper _
    (λ empty. c.has_none.ensures.some c.if-has_none.false (c.deref.ensures.value ∙ sym c.deref-else-has_none.ensures.value ∙ empty))
    (λ told rows kept. subst (IsListing rows) (sym c.deref-else-has_none.ensures.value) (c.in-Ok.ensures.rows (c.resumed.ensures.told told) rows kept)) c.resumed.ensures.fault

pub returns-then-has_none-clause-left_ok : goal.returns-then-has_none-clause-left_ok
returns-then-has_none-clause-left_ok g c = λ rows kept left.
    new_keeps c.new_tracker.result _
    (λ told. subst (g.P.Keeper.keeps c.rows.new.self)
    (without_rows rows
    (none rows _ _ c.deref.ensures.value (c.has_none.ensures.none c.if-has_none.true) (c.in-Ok.ensures.rows (c.new_tracker.ensures.told told) rows kept)))
    (c.in-Ok.ensures.same rows kept))
    c.new_tracker.ensures.left_ok

pub returns-then-has_none-clause-left_err : goal.returns-then-has_none-clause-left_err
returns-then-has_none-clause-left_err g c = λ rows kept left.
    new_opened g.P.Keeper.leaves c.new_tracker.result _ c.new_tracker.new.keeper rows
    (λ told. none rows _ _ c.deref.ensures.value (c.has_none.ensures.none c.if-has_none.true) (c.in-Ok.ensures.rows (c.new_tracker.ensures.told told) rows kept))
    (λ is. c.new_tracker.ensures.left_err (subst (g.P.Keeper.keeps c.rows.new.self) (without_rows rows is) (c.in-Ok.ensures.same rows kept))
    (subst (λ r. g.P.Keeper.leaves c.rows.new.self r r) (without_rows rows is) (c.in-Ok.ensures.left rows rows kept left)))

pub returns-in-Ok-clause-left_ok : goal.returns-in-Ok-clause-left_ok
returns-in-Ok-clause-left_ok g c = λ rows kept left.
    new_keeps c.resumed.result _
    (λ told. subst (IsListing rows) (sym c.deref-else-has_none.ensures.value) (c.in-Ok.ensures.rows (c.resumed.ensures.told told) rows kept))
    (c.resumed.ensures.left_ok rows (c.in-Ok.ensures.same rows kept) (c.in-Ok.ensures.left rows rows kept left))

pub returns-in-Ok-clause-left_err : goal.returns-in-Ok-clause-left_err
returns-in-Ok-clause-left_err g c = λ rows kept left.
    loaded_opened g.P.Keeper.leaves c.resumed.result _ c.resumed.new.keeper rows
    (λ told. subst (IsListing rows) (sym c.deref-else-has_none.ensures.value) (c.in-Ok.ensures.rows (c.resumed.ensures.told told) rows kept))
    (c.resumed.ensures.left_err rows (c.in-Ok.ensures.same rows kept) (c.in-Ok.ensures.left rows rows kept left))

pub returns-clause-left_err : goal.returns-clause-left_err
returns-clause-left_err g c = λ rows kept left told. inl (c.in-Err.ensures.left rows rows kept left)
