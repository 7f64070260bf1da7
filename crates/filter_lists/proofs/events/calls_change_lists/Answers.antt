use Rattle.filter_lists.proofs.Calls.{calls_change_lists}
use Rattle.filter_lists.proofs.events.calls_change_lists.Goals as goal

pub returns : goal.returns
returns c = calls_change_lists
