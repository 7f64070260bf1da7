use Rattle.std.proofs.Common.{take, to_z, of_z, w64}
use Rattle.std.proofs.lemmas.List.{take_all}
use Rattle.std.proofs.lemmas.Int.{to_z-of_z}
use Rattle.jql_meaning.specs.Surroundings.{surroundings_of}
use Rattle.jql_present.proofs.Firsts.{first_of_more, first_of_same}
use Rattle.jql_present.proofs.end.first_of.Goals as goal

pub loop-operand-preserved : goal.loop-operand-preserved
loop-operand-preserved c =
    first_of_more (surroundings_of c.args.context.now) c.args.operands.now (to_z w64 (of_z w64 c.args.mark)) c.args.at c.loop-operand.operand-index c.operand-item.result c.loop-operand.first c.next_of.result c.earlier-first.result
    c.loop-operand-test.true c.operand-item.is c.earlier-first.ensures c.loop-operand.invariant c.next_of.ensures

pub returns : goal.returns
returns c =
    first_of_same (surroundings_of c.args.context.now) (take c.loop-operand.operand-index c.args.operands.now) c.args.operands.now (to_z w64 (of_z w64 c.args.mark)) c.args.mark c.args.at c.loop-operand.first
    (take_all c.loop-operand.operand-index c.args.operands.now c.loop-operand-test.false) (to_z-of_z w64 c.args.mark c.ranges.mark) c.loop-operand.invariant
