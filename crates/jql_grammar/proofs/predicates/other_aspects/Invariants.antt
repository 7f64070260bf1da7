use Rattle.std.proofs.Common.{◌≡◌, drop}
use Rattle.jql_grammar.specs.Scope.{scope_of}
use Rattle.jql_grammar.specs.Predicates.{other_aspects}
use Rattle.jql_grammar.proofs.Turns.{after}
use Rattle.jql_grammar.proofs.predicates.other_aspects.Given as goal

abbrev pub invariant-loop-aspect : goal.invariant-loop-aspect
invariant-loop-aspect l = other_aspects (scope_of l.binder) l.aspects ≡ after l.bound (other_aspects (scope_of l.binder) (drop l.aspect-index l.aspects))
