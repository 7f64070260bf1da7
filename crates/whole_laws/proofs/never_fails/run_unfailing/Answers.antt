use Rattle.whole_laws.proofs.Counts.{stays_zero}
use Rattle.whole_laws.proofs.never_fails.run_unfailing.Goals as goal

pub returns : goal.returns
returns g c = c.run_command.ensures.kept (stays_zero _ _ (c.requires.never _) (c.requires.never _))
