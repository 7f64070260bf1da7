use Rattle.workflow.proofs.LeastOf.{refused_is_least}
use Rattle.workflow.proofs.laws.refused_input_is_the_first.Goals as goal

pub returns : goal.returns
returns c = refused_is_least
