use Rattle.std.proofs.lemmas.Result.{err_from_is_err_and}
use Rattle.jql_syntax.specs.Node.{sort_key}
use Rattle.jql_syntax.proofs.Reading.{goes_rule, goes_both, goes_as, stop_former, stop_rule}
use Rattle.jql_syntax.proofs.Reading.{sort_parts}
use Rattle.jql_syntax.proofs.read_query.read_sorting.Goals as goal

pub returns-in_err-field-clause-err : goal.returns-in_err-field-clause-err
returns-in_err-field-clause-err c = let p = err_from_is_err_and c.from_residual.result c.from_residual.ensures.1 in
    rw (p.1, p.2) (stop_rule (stop_former c.in_err-field.ensures.err))

pub returns-clause-ok : goal.returns-clause-ok
returns-clause-ok c = rw c.or_ascending-direction.ensures (goes_as (goes_rule sort_key (goes_both c.in_ok-field.ensures.ok c.read_direction-direction.ensures)) (sort_parts c.in_ok-field.field c.read_direction-direction.result.0))
