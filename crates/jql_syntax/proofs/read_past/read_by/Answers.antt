use Rattle.std.proofs.lemmas.Result.{err_from_is_err_and}
use Rattle.jql_syntax.specs.Node.{by_author}
use Rattle.jql_syntax.proofs.Reading.{goes_rule, stop_rule}
use Rattle.jql_syntax.proofs.read_past.read_by.Goals as goal

pub returns-in_err-choice-clause-err : goal.returns-in_err-choice-clause-err
returns-in_err-choice-clause-err c = let p = err_from_is_err_and c.from_residual.result c.from_residual.ensures.1 in
    rw (p.1, p.2) (stop_rule c.in_err-choice.ensures.err)

pub returns-clause-ok : goal.returns-clause-ok
returns-clause-ok c = goes_rule by_author c.in_ok-choice.ensures.ok
