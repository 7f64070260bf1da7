use Rattle.std.proofs.Common.{sym}
use Rattle.std.proofs.lemmas.Result.{err_from_is_err_and, IfOk-weaker}
use Rattle.jql_syntax.specs.Node.{after}
use Rattle.jql_syntax.proofs.Reading.{goes_rule, goes_first, goes_second, stop_rule, stop_first, stop_second, off, on, IfErr-weaker}
use Rattle.jql_syntax.proofs.read_past.read_predicate.Goals as goal

pub returns-in_err-date-clause-err : goal.returns-in_err-date-clause-err
returns-in_err-date-clause-err c = let p = err_from_is_err_and c.from_residual.result c.from_residual.ensures.1 in
    rw (p.1, p.2) (stop_first (on (sym c.if-starts.ensures)) (stop_rule c.in_err-date.ensures.err))

pub returns-then-starts-clause-ok : goal.returns-then-starts-clause-ok
returns-then-starts-clause-ok c = goes_first _ (on (sym c.if-starts.ensures)) (goes_rule after c.in_ok-date.ensures.ok)

pub returns-clause-ok : goal.returns-clause-ok
returns-clause-ok c = IfOk-weaker c.read_later_predicate.result _ _ (λ x h. goes_second _ (off (sym c.if-starts.ensures)) h) c.read_later_predicate.ensures.ok

pub returns-clause-err : goal.returns-clause-err
returns-clause-err c = IfErr-weaker c.read_later_predicate.result _ _ (λ s h. stop_second (off (sym c.if-starts.ensures)) h) c.read_later_predicate.ensures.err
