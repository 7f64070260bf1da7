use Rattle.jql_syntax.proofs.Views.{view-Leaf}
use Rattle.jql_syntax.proofs.read_expr.read_single.Goals as goal

pub returns-clause-ok : goal.returns-clause-ok
returns-clause-ok c = rw (view-Leaf c.in_ok-leaf.leaf) c.in_ok-leaf.ensures.ok
