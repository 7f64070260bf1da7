use Rattle.std.proofs.Common.{◌*◌, ◌+◌, length, map}
use Rattle.jql_syntax.specs.Form.{unit}
use Rattle.jql_syntax.specs.Grammar.{conjunction}
use Rattle.jql_syntax.specs.View.{node}
use Rattle.jql_syntax.specs.declared.token.Mark.TheVariants.{And, Or}
use Rattle.jql_syntax.proofs.Reading.{SomeRead}
use Rattle.jql_syntax.proofs.read_expr.+reader.Given as goal

abbrev pub decreases-read_unit : goal.decreases-read_unit
decreases-read_unit l = 5 * l.room

abbrev pub decreases-read_not : goal.decreases-read_not
decreases-read_not l = 5 * l.room + 1

abbrev pub decreases-read_group : goal.decreases-read_group
decreases-read_group l = 5 * l.room + 3

abbrev pub decreases-read_conjunction : goal.decreases-read_conjunction
decreases-read_conjunction l = 5 * l.room + 1

abbrev pub decreases-read_expr : goal.decreases-read_expr
decreases-read_expr l = 5 * l.room + 2

abbrev pub invariant-read_conjunction-units : goal.invariant-read_conjunction-units
invariant-read_conjunction-units l = SomeRead (unit l.room) And l.ts l.rest (map node l.units.items)

abbrev pub decreases-read_conjunction-units : goal.decreases-read_conjunction-units
decreases-read_conjunction-units l = length l.rest

abbrev pub invariant-read_expr-conjunctions : goal.invariant-read_expr-conjunctions
invariant-read_expr-conjunctions l = SomeRead (conjunction l.room) Or l.ts l.rest (map node l.conjunctions.items)

abbrev pub decreases-read_expr-conjunctions : goal.decreases-read_expr-conjunctions
decreases-read_expr-conjunctions l = length l.rest
