use Rattle.run_laws.proofs.Amended.{amended_runs_tell_the_same}
use Rattle.run_laws.proofs.laws.amended_runs_tell_the_same.Goals as goal

pub returns : goal.returns
returns c = amended_runs_tell_the_same
