use Rattle.tracker_sight.proofs.Outputs.{outputs_tell_replies, outputs_tell_the_same}
use Rattle.tracker_sight.proofs.laws.outputs_tell_the_same.Goals as goal

pub returns-clause-replies : goal.returns-clause-replies
returns-clause-replies c = outputs_tell_replies

pub returns-clause-two : goal.returns-clause-two
returns-clause-two c = outputs_tell_the_same
