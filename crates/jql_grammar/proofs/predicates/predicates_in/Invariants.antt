use Rattle.std.proofs.Common.{◌≡◌, drop}
use Rattle.jql_grammar.specs.Scope.{scope_of}
use Rattle.jql_grammar.specs.Predicates.{predicates_in}
use Rattle.jql_grammar.proofs.Turns.{after}
use Rattle.jql_grammar.proofs.predicates.predicates_in.Given as goal

abbrev pub invariant-loop-predicate : goal.invariant-loop-predicate
invariant-loop-predicate l = predicates_in (scope_of l.binder) l.predicates ≡ after l.bound (predicates_in (scope_of l.binder) (drop l.predicate-index l.predicates))
