use Rattle.std.proofs.Common.{length, map}
use Rattle.jql_syntax.specs.Node.{a_key}
use Rattle.jql_syntax.specs.Grammar.{sorting}
use Rattle.jql_syntax.specs.declared.token.Mark.TheVariants.{Comma}
use Rattle.jql_syntax.proofs.Reading.{SomeRead}
use Rattle.jql_syntax.proofs.read_query.read_sortings.Given as goal

abbrev pub invariant-keys : goal.invariant-keys
invariant-keys l = SomeRead sorting Comma l.ts l.rest (map a_key l.keys)

abbrev pub decreases-keys : goal.decreases-keys
decreases-keys l = length l.rest
