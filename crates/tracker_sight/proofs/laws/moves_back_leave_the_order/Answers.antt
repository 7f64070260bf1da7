use Rattle.tracker_sight.proofs.MovedBack.{moves_back_leave_the_order}
use Rattle.tracker_sight.proofs.laws.moves_back_leave_the_order.Goals as goal

pub returns : goal.returns
returns c = moves_back_leave_the_order
