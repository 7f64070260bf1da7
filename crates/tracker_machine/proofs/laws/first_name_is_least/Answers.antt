use Rattle.tracker_machine.proofs.Least.{least_name}
use Rattle.tracker_machine.proofs.laws.first_name_is_least.Goals as goal

pub returns : goal.returns
returns c = least_name
