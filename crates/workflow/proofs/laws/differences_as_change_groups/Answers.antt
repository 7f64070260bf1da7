use Rattle.workflow.proofs.Differing.{may_be_added, is_made}
use Rattle.workflow.proofs.laws.differences_as_change_groups.Goals as goal

pub returns-clause-added : goal.returns-clause-added
returns-clause-added c = may_be_added

pub returns-clause-made : goal.returns-clause-made
returns-clause-made c = is_made
