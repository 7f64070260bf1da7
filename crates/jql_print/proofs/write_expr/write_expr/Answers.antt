use Rattle.std.proofs.Common.{◌≡◌}
use Rattle.jql_syntax.specs.Tree.{any_of}
use Rattle.jql_syntax.specs.View.{view, views}
use Rattle.jql_syntax.proofs.Views.{view-Any}
use Rattle.jql_print.proofs.write_expr.write_expr.Goals as goal

pub returns-in-Any : goal.returns-in-Any
returns-in-Any c =
    let seen : view c.args.expr.now ≡ any_of (views c.deref.result.now) = rw (c.in-Any.is, c.deref.ensures.value) (view-Any c.in-Any.conjunctions) in
    rw seen c.write_conjunctions.ensures
