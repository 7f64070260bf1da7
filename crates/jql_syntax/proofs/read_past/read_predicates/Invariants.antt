use Rattle.std.proofs.Common.{length, map}
use Rattle.jql_syntax.specs.Node.{a_predicate}
use Rattle.jql_syntax.specs.Grammar.{predicate}
use Rattle.jql_syntax.proofs.Reading.{ManyRead}
use Rattle.jql_syntax.proofs.read_past.read_predicates.Given as goal

abbrev pub invariant-predicates : goal.invariant-predicates
invariant-predicates l = ManyRead predicate l.ts l.rest (map a_predicate l.predicates)

abbrev pub decreases-predicates : goal.decreases-predicates
decreases-predicates l = length l.rest
