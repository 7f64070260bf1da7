use Rattle.tracker_import.proofs.CallByCall.{made_step}
use Rattle.tracker_import.proofs.import.make_call.Goals as goal

pub returns : goal.returns
returns g c = made_step _ _ _ _ _ _ _ c.call.ensures.rows c.call.ensures.told _ c.call.ensures.step c.call.ensures.cause
