use Rattle.amended_histories.proofs.Amended.{histories_tell_the_same}
use Rattle.amended_histories.proofs.laws.histories_tell_the_same.Goals as goal

pub returns : goal.returns
returns c = histories_tell_the_same
