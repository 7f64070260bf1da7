use Rattle.std.proofs.Common.{◌∙◌, ◌<◌, length, sym, arith}
use Rattle.jql_syntax.specs.Tree.{any_of}
use Rattle.jql_syntax.proofs.Views.{one_or_many, view-Any}
use Rattle.jql_syntax.proofs.read_expr.any_of.Goals as goal

pub returns-then-len-gt1 : goal.returns-then-len-gt1
returns-then-len-gt1 c =
    let xs = c.args.conjunctions.items in
    let many : 1 < length xs = omega (arith, c.args.conjunctions.ok.0) in
    view-Any c.args.conjunctions ∙ sym (one_or_many any_of xs many)
