use Rattle.std.proofs.Common.{length, map}
use Rattle.jql_syntax.specs.Node.{an_item}
use Rattle.jql_syntax.specs.Grammar.{item_or_author}
use Rattle.jql_syntax.specs.declared.token.Mark.TheVariants.{Comma}
use Rattle.jql_syntax.proofs.Reading.{SomeRead}
use Rattle.jql_syntax.proofs.read_list.read_members.Given as goal

abbrev pub invariant-members : goal.invariant-members
invariant-members l = SomeRead (item_or_author l.author) Comma l.ts l.rest (map an_item l.items)

abbrev pub decreases-members : goal.decreases-members
decreases-members l = length l.rest
