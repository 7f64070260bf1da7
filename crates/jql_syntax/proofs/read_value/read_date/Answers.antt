use Rattle.std.proofs.lemmas.Result.{err_from_is_err_and}
use Rattle.jql_syntax.specs.Node.{text_value, call_value}
use Rattle.jql_syntax.proofs.Reading.{reads_one, goes_rule, goes_first, goes_second, stop_rule, stop_first, stop_second}
use Rattle.jql_syntax.proofs.read_value.read_date.Goals as goal

pub returns-in_err-text-clause-err : goal.returns-in_err-text-clause-err
returns-in_err-text-clause-err c = let p = err_from_is_err_and c.from_residual.result c.from_residual.ensures.1 in
    rw (p.1, p.2) (let e = c.in_err-text.ensures.err in stop_first e.1 (stop_rule e.2))

pub returns-in-Some-clause-ok : goal.returns-in-Some-clause-ok
returns-in-Some-clause-ok c = let s = rw c.in-Some.is at c.in_ok-text.ensures.some in
    rw c.in_ok-copy.ensures (goes_first _ (reads_one s) (goes_rule text_value s))

pub returns-in_err-call-clause-err : goal.returns-in_err-call-clause-err
returns-in_err-call-clause-err c = let s = rw c.in_default.is at c.in_ok-text.ensures.none in
    let p = err_from_is_err_and c.from_residual-in_err-call.result c.from_residual-in_err-call.ensures.1 in
    rw (p.1, p.2) (stop_second s (stop_rule c.in_err-call.ensures.err))

pub returns-clause-ok : goal.returns-clause-ok
returns-clause-ok c = let s = rw c.in_default.is at c.in_ok-text.ensures.none in
    goes_second _ s (goes_rule call_value c.in_ok-call.ensures.ok)
