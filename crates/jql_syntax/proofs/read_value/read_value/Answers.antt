use Rattle.std.proofs.lemmas.Result.{err_from_is_err_and}
use Rattle.jql_syntax.specs.Node.{text_value, call_value}
use Rattle.jql_syntax.proofs.Reading.{reads_one, goes_rule, goes_first, goes_second, stop_rule, stop_second}
use Rattle.jql_syntax.proofs.read_value.read_value.Goals as goal

pub returns-in-Some-clause-ok : goal.returns-in-Some-clause-ok
returns-in-Some-clause-ok c = rw c.in_ok-copy.ensures (goes_first _ (reads_one c.in-Some.ensures.some) (goes_rule text_value c.in-Some.ensures.some))

pub returns-in_err-call-clause-err : goal.returns-in_err-call-clause-err
returns-in_err-call-clause-err c = let p = err_from_is_err_and c.from_residual-in_err-call.result c.from_residual-in_err-call.ensures.1 in
    rw (p.1, p.2) (stop_second c.in_default.ensures.none (stop_rule c.in_err-call.ensures.err))

pub returns-clause-ok : goal.returns-clause-ok
returns-clause-ok c = goes_second _ c.in_default.ensures.none (goes_rule call_value c.in_ok-call.ensures.ok)
