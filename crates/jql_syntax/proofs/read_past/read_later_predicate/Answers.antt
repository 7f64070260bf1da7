use Rattle.std.proofs.Common.{sym}
use Rattle.std.proofs.lemmas.Result.{err_from_is_err_and, IfOk-weaker}
use Rattle.jql_syntax.specs.Node.{before, on_day}
use Rattle.jql_syntax.proofs.Reading.{goes_rule, goes_first, goes_second, stop_rule, stop_first, stop_second, off, on, IfErr-weaker}
use Rattle.jql_syntax.proofs.read_past.read_later_predicate.Goals as goal

pub returns-in_err-date-clause-err : goal.returns-in_err-date-clause-err
returns-in_err-date-clause-err c = let p = err_from_is_err_and c.from_residual.result c.from_residual.ensures.1 in
    rw (p.1, p.2) (stop_first (on (sym c.if-starts.ensures)) (stop_rule c.in_err-date.ensures.err))

pub returns-then-starts-clause-ok : goal.returns-then-starts-clause-ok
returns-then-starts-clause-ok c = goes_first _ (on (sym c.if-starts.ensures)) (goes_rule before c.in_ok-date.ensures.ok)

pub returns-in_err-date-2-clause-err : goal.returns-in_err-date-2-clause-err
returns-in_err-date-2-clause-err c = let p = err_from_is_err_and c.from_residual-in_err-date-2.result c.from_residual-in_err-date-2.ensures.1 in
    rw (p.1, p.2) (stop_second (off (sym c.if-starts.ensures)) (stop_first (on (sym c.if-starts-2.ensures)) (stop_rule c.in_err-date-2.ensures.err)))

pub returns-then-starts-2-clause-ok : goal.returns-then-starts-2-clause-ok
returns-then-starts-2-clause-ok c = goes_second _ (off (sym c.if-starts.ensures)) (goes_first _ (on (sym c.if-starts-2.ensures)) (goes_rule on_day c.in_ok-date-2.ensures.ok))

pub returns-then-starts-3-clause-ok : goal.returns-then-starts-3-clause-ok
returns-then-starts-3-clause-ok c = IfOk-weaker c.read_during.result _ _ (λ x h. goes_second _ (off (sym c.if-starts.ensures)) (goes_second _ (off (sym c.if-starts-2.ensures)) (goes_first _ (on (sym c.if-starts-3.ensures)) h))) c.read_during.ensures.ok

pub returns-then-starts-3-clause-err : goal.returns-then-starts-3-clause-err
returns-then-starts-3-clause-err c = IfErr-weaker c.read_during.result _ _ (λ s h. stop_second (off (sym c.if-starts.ensures)) (stop_second (off (sym c.if-starts-2.ensures)) (stop_first (on (sym c.if-starts-3.ensures)) h))) c.read_during.ensures.err

pub returns-clause-ok : goal.returns-clause-ok
returns-clause-ok c = IfOk-weaker c.read_by.result _ _ (λ x h. goes_second _ (off (sym c.if-starts.ensures)) (goes_second _ (off (sym c.if-starts-2.ensures)) (goes_second _ (off (sym c.if-starts-3.ensures)) h))) c.read_by.ensures.ok

pub returns-clause-err : goal.returns-clause-err
returns-clause-err c = IfErr-weaker c.read_by.result _ _ (λ s h. stop_second (off (sym c.if-starts.ensures)) (stop_second (off (sym c.if-starts-2.ensures)) (stop_second (off (sym c.if-starts-3.ensures)) h))) c.read_by.ensures.err
