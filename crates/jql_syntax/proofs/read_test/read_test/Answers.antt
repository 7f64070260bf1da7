use Rattle.std.proofs.Common.{sym}
use Rattle.std.proofs.lemmas.Result.{err_from_is_err_and, IfOk-weaker}
use Rattle.jql_syntax.specs.Node.{equals, not_equals, among, not_among}
use Rattle.jql_syntax.proofs.Reading.{goes_rule, goes_first, goes_second, stop_rule, stop_first, stop_second, off, on, IfErr-weaker}
use Rattle.jql_syntax.proofs.read_test.read_test.Goals as goal

pub returns-in_err-item-clause-err : goal.returns-in_err-item-clause-err
returns-in_err-item-clause-err c = let p = err_from_is_err_and c.from_residual.result c.from_residual.ensures.1 in
    rw (p.1, p.2) (stop_first (on (sym c.if-starts.ensures)) (stop_rule c.in_err-item.ensures.err))

pub returns-then-starts-clause-ok : goal.returns-then-starts-clause-ok
returns-then-starts-clause-ok c = goes_first _ (on (sym c.if-starts.ensures)) (goes_rule equals c.in_ok-item.ensures.ok)

pub returns-in_err-item-2-clause-err : goal.returns-in_err-item-2-clause-err
returns-in_err-item-2-clause-err c = let p = err_from_is_err_and c.from_residual-in_err-item-2.result c.from_residual-in_err-item-2.ensures.1 in
    rw (p.1, p.2) (stop_second (off (sym c.if-starts.ensures)) (stop_first (on (sym c.if-starts-2.ensures)) (stop_rule c.in_err-item-2.ensures.err)))

pub returns-then-starts-2-clause-ok : goal.returns-then-starts-2-clause-ok
returns-then-starts-2-clause-ok c = goes_second _ (off (sym c.if-starts.ensures)) (goes_first _ (on (sym c.if-starts-2.ensures)) (goes_rule not_equals c.in_ok-item-2.ensures.ok))

pub returns-in_err-members-clause-err : goal.returns-in_err-members-clause-err
returns-in_err-members-clause-err c = let p = err_from_is_err_and c.from_residual-in_err-members.result c.from_residual-in_err-members.ensures.1 in
    rw (p.1, p.2) (stop_second (off (sym c.if-starts.ensures)) (stop_second (off (sym c.if-starts-2.ensures)) (stop_first (on (sym c.if-starts-3.ensures)) (stop_rule c.in_err-members.ensures.err))))

pub returns-then-starts-3-clause-ok : goal.returns-then-starts-3-clause-ok
returns-then-starts-3-clause-ok c = goes_second _ (off (sym c.if-starts.ensures)) (goes_second _ (off (sym c.if-starts-2.ensures)) (goes_first _ (on (sym c.if-starts-3.ensures)) (goes_rule among c.in_ok-members.ensures.ok)))

pub returns-in_err-members-2-clause-err : goal.returns-in_err-members-2-clause-err
returns-in_err-members-2-clause-err c = let p = err_from_is_err_and c.from_residual-in_err-members-2.result c.from_residual-in_err-members-2.ensures.1 in
    rw (p.1, p.2) (stop_second (off (sym c.if-starts.ensures)) (stop_second (off (sym c.if-starts-2.ensures)) (stop_second (off (sym c.if-starts-3.ensures)) (stop_first (on (sym c.if-starts-4.ensures)) (stop_rule c.in_err-members-2.ensures.err)))))

pub returns-then-starts-4-clause-ok : goal.returns-then-starts-4-clause-ok
returns-then-starts-4-clause-ok c = goes_second _ (off (sym c.if-starts.ensures)) (goes_second _ (off (sym c.if-starts-2.ensures)) (goes_second _ (off (sym c.if-starts-3.ensures)) (goes_first _ (on (sym c.if-starts-4.ensures)) (goes_rule not_among c.in_ok-members-2.ensures.ok))))

pub returns-then-starts-5-clause-ok : goal.returns-then-starts-5-clause-ok
returns-then-starts-5-clause-ok c = IfOk-weaker c.read_is.result _ _ (λ x h. goes_second _ (off (sym c.if-starts.ensures)) (goes_second _ (off (sym c.if-starts-2.ensures)) (goes_second _ (off (sym c.if-starts-3.ensures)) (goes_second _ (off (sym c.if-starts-4.ensures)) (goes_first _ (on (sym c.if-starts-5.ensures)) (h)))))) c.read_is.ensures.ok

pub returns-then-starts-5-clause-err : goal.returns-then-starts-5-clause-err
returns-then-starts-5-clause-err c = IfErr-weaker c.read_is.result _ _ (λ s h. stop_second (off (sym c.if-starts.ensures)) (stop_second (off (sym c.if-starts-2.ensures)) (stop_second (off (sym c.if-starts-3.ensures)) (stop_second (off (sym c.if-starts-4.ensures)) (stop_first (on (sym c.if-starts-5.ensures)) (h)))))) c.read_is.ensures.err

pub returns-then-starts-6-clause-ok : goal.returns-then-starts-6-clause-ok
returns-then-starts-6-clause-ok c = IfOk-weaker c.read_was.result _ _ (λ x h. goes_second _ (off (sym c.if-starts.ensures)) (goes_second _ (off (sym c.if-starts-2.ensures)) (goes_second _ (off (sym c.if-starts-3.ensures)) (goes_second _ (off (sym c.if-starts-4.ensures)) (goes_second _ (off (sym c.if-starts-5.ensures)) (goes_first _ (on (sym c.if-starts-6.ensures)) (h))))))) c.read_was.ensures.ok

pub returns-then-starts-6-clause-err : goal.returns-then-starts-6-clause-err
returns-then-starts-6-clause-err c = IfErr-weaker c.read_was.result _ _ (λ s h. stop_second (off (sym c.if-starts.ensures)) (stop_second (off (sym c.if-starts-2.ensures)) (stop_second (off (sym c.if-starts-3.ensures)) (stop_second (off (sym c.if-starts-4.ensures)) (stop_second (off (sym c.if-starts-5.ensures)) (stop_first (on (sym c.if-starts-6.ensures)) (h))))))) c.read_was.ensures.err

pub returns-then-starts-7-clause-ok : goal.returns-then-starts-7-clause-ok
returns-then-starts-7-clause-ok c = IfOk-weaker c.read_changed.result _ _ (λ x h. goes_second _ (off (sym c.if-starts.ensures)) (goes_second _ (off (sym c.if-starts-2.ensures)) (goes_second _ (off (sym c.if-starts-3.ensures)) (goes_second _ (off (sym c.if-starts-4.ensures)) (goes_second _ (off (sym c.if-starts-5.ensures)) (goes_second _ (off (sym c.if-starts-6.ensures)) (goes_first _ (on (sym c.if-starts-7.ensures)) (h)))))))) c.read_changed.ensures.ok

pub returns-then-starts-7-clause-err : goal.returns-then-starts-7-clause-err
returns-then-starts-7-clause-err c = IfErr-weaker c.read_changed.result _ _ (λ s h. stop_second (off (sym c.if-starts.ensures)) (stop_second (off (sym c.if-starts-2.ensures)) (stop_second (off (sym c.if-starts-3.ensures)) (stop_second (off (sym c.if-starts-4.ensures)) (stop_second (off (sym c.if-starts-5.ensures)) (stop_second (off (sym c.if-starts-6.ensures)) (stop_first (on (sym c.if-starts-7.ensures)) (h)))))))) c.read_changed.ensures.err

pub returns-clause-ok : goal.returns-clause-ok
returns-clause-ok c = IfOk-weaker c.read_comparison.result _ _ (λ x h. goes_second _ (off (sym c.if-starts.ensures)) (goes_second _ (off (sym c.if-starts-2.ensures)) (goes_second _ (off (sym c.if-starts-3.ensures)) (goes_second _ (off (sym c.if-starts-4.ensures)) (goes_second _ (off (sym c.if-starts-5.ensures)) (goes_second _ (off (sym c.if-starts-6.ensures)) (goes_second _ (off (sym c.if-starts-7.ensures)) (h)))))))) c.read_comparison.ensures.ok

pub returns-clause-err : goal.returns-clause-err
returns-clause-err c = IfErr-weaker c.read_comparison.result _ _ (λ s h. stop_second (off (sym c.if-starts.ensures)) (stop_second (off (sym c.if-starts-2.ensures)) (stop_second (off (sym c.if-starts-3.ensures)) (stop_second (off (sym c.if-starts-4.ensures)) (stop_second (off (sym c.if-starts-5.ensures)) (stop_second (off (sym c.if-starts-6.ensures)) (stop_second (off (sym c.if-starts-7.ensures)) (h)))))))) c.read_comparison.ensures.err
