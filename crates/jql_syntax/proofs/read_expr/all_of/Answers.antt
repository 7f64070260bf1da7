use Rattle.std.proofs.Common.{◌∙◌, ◌<◌, length, sym, arith}
use Rattle.jql_syntax.specs.Tree.{all_of}
use Rattle.jql_syntax.proofs.Views.{one_or_many, view-All}
use Rattle.jql_syntax.proofs.read_expr.all_of.Goals as goal

pub returns-then-len-gt1 : goal.returns-then-len-gt1
returns-then-len-gt1 c =
    let xs = c.args.units.items in
    let many : 1 < length xs = omega (arith, c.args.units.ok.0) in
    view-All c.args.units ∙ sym (one_or_many all_of xs many)
