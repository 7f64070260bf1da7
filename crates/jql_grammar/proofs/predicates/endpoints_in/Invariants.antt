use Rattle.std.proofs.Common.{◌≡◌, drop}
use Rattle.jql_grammar.specs.Scope.{scope_of}
use Rattle.jql_grammar.specs.Predicates.{endpoints_in}
use Rattle.jql_grammar.proofs.Turns.{after}
use Rattle.jql_grammar.proofs.predicates.endpoints_in.Given as goal

abbrev pub invariant-loop-aspect : goal.invariant-loop-aspect
invariant-loop-aspect l = endpoints_in (scope_of l.binder) l.kind l.aspects ≡ after l.endpoints (endpoints_in (scope_of l.binder) l.kind (drop l.aspect-index l.aspects))
