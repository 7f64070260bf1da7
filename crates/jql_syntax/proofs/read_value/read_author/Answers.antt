use Rattle.std.proofs.lemmas.Result.{err_from_is_err_and}
use Rattle.jql_syntax.specs.Node.{value_item}
use Rattle.jql_syntax.proofs.Reading.{goes_rule, stop_rule}
use Rattle.jql_syntax.proofs.read_value.read_author.Goals as goal

pub returns-in_err-value-clause-err : goal.returns-in_err-value-clause-err
returns-in_err-value-clause-err c = let p = err_from_is_err_and c.from_residual.result c.from_residual.ensures.1 in
    rw (p.1, p.2) (stop_rule c.in_err-value.ensures.err)

pub returns-clause-ok : goal.returns-clause-ok
returns-clause-ok c = goes_rule value_item c.in_ok-value.ensures.ok
