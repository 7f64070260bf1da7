use Rattle.std.proofs.Common.{length, map}
use Rattle.jql_syntax.specs.Node.{an_aspect}
use Rattle.jql_syntax.specs.Grammar.{aspect}
use Rattle.jql_syntax.proofs.Reading.{ManyRead}
use Rattle.jql_syntax.proofs.read_past.read_aspects.Given as goal

abbrev pub invariant-aspects : goal.invariant-aspects
invariant-aspects l = ManyRead aspect l.ts l.rest (map an_aspect l.aspects)

abbrev pub decreases-aspects : goal.decreases-aspects
decreases-aspects l = length l.rest
