use Rattle.std.proofs.Common.{option_map}
use Rattle.jql_syntax.specs.View.{view as tree}
use Rattle.jql_bound.specs.Condition.{view}
use Rattle.jql_grammar.specs.Scope.{scope_in}
use Rattle.jql_grammar.proofs.Denying.{keys_told}
use Rattle.jql_grammar.proofs.binding.bind.Goals as goal

pub returns-in-Err-clause-fault : goal.returns-in-Err-clause-fault
returns-in-Err-clause-fault c =
    keys_told (scope_in c.args.setup.now c.args.caller) (option_map tree c.args.query.now.0) c.args.query.now.1 (option_map view c.in_ok-cond.cond) c.in-Err.fault c.in_ok-cond.ensures.ok
    (rw (c.order.ensures, c.in_ok-cond.ensures.next) at c.in-Err.ensures.err)
