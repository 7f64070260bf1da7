use Rattle.std.proofs.Common.{refl, sym, arith}
use Rattle.std.proofs.lemmas.Result.{err_from_is_err_and, IfOk-weaker}
use Rattle.jql_syntax.specs.Node.{negated, all, any}
use Rattle.jql_syntax.specs.declared.token.Mark.TheVariants.{And, Or}
use Rattle.jql_syntax.proofs.Reading.{unit_goes, unit_stops, deep_stops, leaf_goes, leaf_stops, stuck, goes_rule, goes_both, goes_first, goes_second, goes_as, stop_latter, stop_former, stop_rule, stop_first, stop_second, off, on, goes_shorter, key_shorter, some_first, some_next, some_done, some_fail, map_push, IfErr-weaker}
use Rattle.jql_syntax.specs.View.{node}
use Rattle.jql_syntax.proofs.Views.{all_made, any_made, view-Not}
use Rattle.jql_syntax.proofs.Apart.{or_left, or_right}
use Rattle.jql_syntax.proofs.Reading.{pred_suc}
use Rattle.jql_syntax.proofs.read_expr.+reader.Goals as goal

pub read_unit-returns-then-room-eq0-clause-err : goal.read_unit-returns-then-room-eq0-clause-err
read_unit-returns-then-room-eq0-clause-err t c = deep_stops c.args.ts.now c.if-room-eq0.true (or_left _ _ (sym c.if-starts.ensures))

pub read_unit-returns-then-starts-clause-ok : goal.read_unit-returns-then-starts-clause-ok
read_unit-returns-then-starts-clause-ok t c = IfOk-weaker c.read_not.result _ _ (λ x h. unit_goes (pred_suc c.args.room c.if-room-eq0.false) (goes_first _ (on (sym c.if-starts.ensures)) h)) c.read_not.ensures.ok

pub read_unit-returns-then-starts-clause-err : goal.read_unit-returns-then-starts-clause-err
read_unit-returns-then-starts-clause-err t c = IfErr-weaker c.read_not.result _ _ (λ s h. unit_stops (pred_suc c.args.room c.if-room-eq0.false) (stop_first (on (sym c.if-starts.ensures)) h)) c.read_not.ensures.err

pub read_unit-returns-then-room-eq0-2-clause-err : goal.read_unit-returns-then-room-eq0-2-clause-err
read_unit-returns-then-room-eq0-2-clause-err t c = deep_stops c.args.ts.now c.if-room-eq0-2.true (or_right _ _ (sym c.if-starts-2.ensures))

pub read_unit-returns-then-starts-2-clause-ok : goal.read_unit-returns-then-starts-2-clause-ok
read_unit-returns-then-starts-2-clause-ok t c = IfOk-weaker c.read_group.result _ _ (λ x h. unit_goes (pred_suc c.args.room c.if-room-eq0-2.false) (goes_second _ (off (sym c.if-starts.ensures)) (goes_first _ (on (sym c.if-starts-2.ensures)) h))) c.read_group.ensures.ok

pub read_unit-returns-then-starts-2-clause-err : goal.read_unit-returns-then-starts-2-clause-err
read_unit-returns-then-starts-2-clause-err t c = IfErr-weaker c.read_group.result _ _ (λ s h. unit_stops (pred_suc c.args.room c.if-room-eq0-2.false) (stop_second (off (sym c.if-starts.ensures)) (stop_first (on (sym c.if-starts-2.ensures)) h))) c.read_group.ensures.err

pub read_unit-returns-clause-ok : goal.read_unit-returns-clause-ok
read_unit-returns-clause-ok t c = IfOk-weaker c.read_single.result _ _ (λ x h. leaf_goes c.args.room (sym c.if-starts.ensures) (sym c.if-starts-2.ensures) h) c.read_single.ensures.ok

pub read_unit-returns-clause-err : goal.read_unit-returns-clause-err
read_unit-returns-clause-err t c = IfErr-weaker c.read_single.result _ _ (λ s h. leaf_stops c.args.room (sym c.if-starts.ensures) (sym c.if-starts-2.ensures) h) c.read_single.ensures.err

pub read_not-returns-in_default-clause-err : goal.read_not-returns-in_default-clause-err
read_not-returns-in_default-clause-err t c = rw c.fault.ensures (stuck c.args.ts.now refl (off c.in_default.ensures.none))

pub read_not-returns-in_err-unit-clause-err : goal.read_not-returns-in_err-unit-clause-err
read_not-returns-in_err-unit-clause-err t c = let p = err_from_is_err_and c.from_residual.result c.from_residual.ensures.1 in
    rw (p.1, p.2) (stop_rule (stop_latter c.in-Some.ensures.some c.in_err-unit.ensures.err))

pub read_not-returns-clause-ok : goal.read_not-returns-clause-ok
read_not-returns-clause-ok t c = rw (view-Not c.in_ok-unit-2.unit, c.in_ok-unit-2.ensures.ok) (goes_rule negated (goes_both c.in-Some.ensures.some c.in_ok-unit.ensures.ok))

pub read_group-returns-in_default-clause-err : goal.read_group-returns-in_default-clause-err
read_group-returns-in_default-clause-err t c = rw c.fault.ensures (stuck c.args.ts.now refl (off c.in_default.ensures.none))

pub read_group-returns-in_err-inner-clause-err : goal.read_group-returns-in_err-inner-clause-err
read_group-returns-in_err-inner-clause-err t c = let p = err_from_is_err_and c.from_residual.result c.from_residual.ensures.1 in
    rw (p.1, p.2) (stop_latter c.in-Some.ensures.some (stop_former c.in_err-inner.ensures.err))

pub read_group-returns-in-Some-take-clause-ok : goal.read_group-returns-in-Some-take-clause-ok
read_group-returns-in-Some-take-clause-ok t c = goes_both c.in-Some.ensures.some (goes_both c.in_ok-inner.ensures.ok c.in-Some-take.ensures.some)

pub read_group-returns-in-None-clause-err : goal.read_group-returns-in-None-clause-err
read_group-returns-in-None-clause-err t c = rw c.fault-in-None.ensures (stop_latter c.in-Some.ensures.some (stop_latter c.in_ok-inner.ensures.ok (stuck c.in_ok-inner.rest.now refl c.in-None.ensures.none)))

pub read_conjunction-returns-in_err-first-clause-err : goal.read_conjunction-returns-in_err-first-clause-err
read_conjunction-returns-in_err-first-clause-err t c = let p = err_from_is_err_and c.from_residual.result c.from_residual.ensures.1 in
    rw (p.1, p.2) (stop_rule (stop_former c.in_err-first.ensures.err))

pub read_conjunction-units-init : goal.read_conjunction-units-init
read_conjunction-units-init t c = rw (c.in_ok-push.ensures.items, c.new-units.ensures.items) (some_first And c.in_ok-first.ensures.ok)

pub read_conjunction-returns-in_err-unit-clause-err : goal.read_conjunction-returns-in_err-unit-clause-err
read_conjunction-returns-in_err-unit-clause-err t c = let p = err_from_is_err_and c.from_residual-in_err-unit.result c.from_residual-in_err-unit.ensures.1 in
    rw (p.1, p.2) (stop_rule (some_fail c.units.invariant c.in-Some.ensures.some c.in_err-unit.ensures.err))

pub read_conjunction-units-smaller : goal.read_conjunction-units-smaller
read_conjunction-units-smaller t c = let h = key_shorter c.in-Some.ensures.some in let k = goes_shorter c.in_ok-unit.ensures.ok in omega arith

pub read_conjunction-units-preserved : goal.read_conjunction-units-preserved
read_conjunction-units-preserved t c = rw (c.in_ok-push-2.ensures.items, map_push node c.units.units.items c.in_ok-unit.unit) (some_next c.units.invariant c.in-Some.ensures.some c.in_ok-unit.ensures.ok)

pub read_conjunction-returns-clause-ok : goal.read_conjunction-returns-clause-ok
read_conjunction-returns-clause-ok t c = goes_as (goes_rule all (some_done c.units.invariant c.in_default.ensures.none)) (all_made c.units.units.items c.all_of.result c.all_of.ensures)

pub read_expr-returns-in_err-first-clause-err : goal.read_expr-returns-in_err-first-clause-err
read_expr-returns-in_err-first-clause-err t c = let p = err_from_is_err_and c.from_residual.result c.from_residual.ensures.1 in
    rw (p.1, p.2) (stop_rule (stop_former c.in_err-first.ensures.err))

pub read_expr-conjunctions-init : goal.read_expr-conjunctions-init
read_expr-conjunctions-init t c = rw (c.in_ok-push.ensures.items, c.new-conjunctions.ensures.items) (some_first Or c.in_ok-first.ensures.ok)

pub read_expr-returns-in_err-conjunction-clause-err : goal.read_expr-returns-in_err-conjunction-clause-err
read_expr-returns-in_err-conjunction-clause-err t c = let p = err_from_is_err_and c.from_residual-in_err-conjunction.result c.from_residual-in_err-conjunction.ensures.1 in
    rw (p.1, p.2) (stop_rule (some_fail c.conjunctions.invariant c.in-Some.ensures.some c.in_err-conjunction.ensures.err))

pub read_expr-conjunctions-smaller : goal.read_expr-conjunctions-smaller
read_expr-conjunctions-smaller t c = let h = key_shorter c.in-Some.ensures.some in let k = goes_shorter c.in_ok-conjunction.ensures.ok in omega arith

pub read_expr-conjunctions-preserved : goal.read_expr-conjunctions-preserved
read_expr-conjunctions-preserved t c = rw (c.in_ok-push-2.ensures.items, map_push node c.conjunctions.conjunctions.items c.in_ok-conjunction.conjunction) (some_next c.conjunctions.invariant c.in-Some.ensures.some c.in_ok-conjunction.ensures.ok)

pub read_expr-returns-clause-ok : goal.read_expr-returns-clause-ok
read_expr-returns-clause-ok t c = goes_as (goes_rule any (some_done c.conjunctions.invariant c.in_default.ensures.none)) (any_made c.conjunctions.conjunctions.items c.any_of.result c.any_of.ensures)
