use Rattle.std.proofs.Common.{sym}
use Rattle.std.proofs.lemmas.Result.{err_from_is_err_and}
use Rattle.jql_syntax.specs.Node.{predicate_aspect, from_choice, to_choice}
use Rattle.jql_syntax.proofs.Reading.{goes_rule, goes_first, goes_second, stop_rule, stop_first, stop_second, off, on}
use Rattle.jql_syntax.proofs.read_past.read_aspect.Goals as goal

pub returns-in_err-predicate-clause-err : goal.returns-in_err-predicate-clause-err
returns-in_err-predicate-clause-err c = let p = err_from_is_err_and c.from_residual.result c.from_residual.ensures.1 in
    rw (p.1, p.2) (stop_first (sym c.if-starts_predicate.ensures) (stop_rule c.in_err-predicate.ensures.err))

pub returns-then-starts_predicate-clause-ok : goal.returns-then-starts_predicate-clause-ok
returns-then-starts_predicate-clause-ok c = goes_first _ (sym c.if-starts_predicate.ensures) (goes_rule predicate_aspect c.in_ok-predicate.ensures.ok)

pub returns-in_err-choice-clause-err : goal.returns-in_err-choice-clause-err
returns-in_err-choice-clause-err c = let p = err_from_is_err_and c.from_residual-in_err-choice.result c.from_residual-in_err-choice.ensures.1 in
    rw (p.1, p.2) (stop_second (sym c.if-starts_predicate.ensures) (stop_first (on (sym c.if-starts.ensures)) (stop_rule c.in_err-choice.ensures.err)))

pub returns-then-starts-clause-ok : goal.returns-then-starts-clause-ok
returns-then-starts-clause-ok c = goes_second _ (sym c.if-starts_predicate.ensures) (goes_first _ (on (sym c.if-starts.ensures)) (goes_rule from_choice c.in_ok-choice.ensures.ok))

pub returns-in_err-choice-2-clause-err : goal.returns-in_err-choice-2-clause-err
returns-in_err-choice-2-clause-err c = let p = err_from_is_err_and c.from_residual-in_err-choice-2.result c.from_residual-in_err-choice-2.ensures.1 in
    rw (p.1, p.2) (stop_second (sym c.if-starts_predicate.ensures) (stop_second (off (sym c.if-starts.ensures)) (stop_rule c.in_err-choice-2.ensures.err)))

pub returns-clause-ok : goal.returns-clause-ok
returns-clause-ok c = goes_second _ (sym c.if-starts_predicate.ensures) (goes_second _ (off (sym c.if-starts.ensures)) (goes_rule to_choice c.in_ok-choice-2.ensures.ok))
