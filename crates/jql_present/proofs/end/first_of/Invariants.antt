use Rattle.std.proofs.Common.{take}
use Rattle.jql_meaning.specs.Surroundings.{surroundings_of}
use Rattle.jql_present.specs.Steady.{IsFirstOf}
use Rattle.jql_present.proofs.end.first_of.Given as goal

abbrev pub invariant-loop-operand : goal.invariant-loop-operand
invariant-loop-operand l = IsFirstOf (surroundings_of l.context) (take l.operand-index l.operands) l.mark l.at l.first
