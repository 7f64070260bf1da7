use Rattle.std.proofs.lemmas.Result.{err_from_is_err_and}
use Rattle.jql_syntax.specs.Node.{whole}
use Rattle.jql_syntax.proofs.Reading.{goes_rule, goes_both, goes_as, stop_latter, stop_former, stop_rule}
use Rattle.jql_syntax.specs.View.{view, unboxed}
use Rattle.std.specs.Prelude.{option_map}
use Rattle.jql_syntax.proofs.Reading.{query_parts}
use Rattle.jql_syntax.proofs.read_query.read_query.Goals as goal

pub returns-in_err-condition-clause-err : goal.returns-in_err-condition-clause-err
returns-in_err-condition-clause-err c = let p = err_from_is_err_and c.from_residual.result c.from_residual.ensures.1 in
    rw (p.1, p.2) (stop_rule (stop_former c.in_err-condition.ensures.err))

pub returns-in_err-keys-clause-err : goal.returns-in_err-keys-clause-err
returns-in_err-keys-clause-err c = let p = err_from_is_err_and c.from_residual-in_err-keys.result c.from_residual-in_err-keys.ensures.1 in
    rw (p.1, p.2) (stop_rule (stop_latter c.in_ok-condition.ensures.ok c.in_err-keys.ensures.err))

pub returns-clause-ok : goal.returns-clause-ok
returns-clause-ok c = goes_as (goes_rule whole (goes_both c.in_ok-condition.ensures.ok c.in_ok-keys.ensures.ok)) (query_parts (option_map view (unboxed c.in_ok-condition.condition)) c.in_ok-keys.keys)
