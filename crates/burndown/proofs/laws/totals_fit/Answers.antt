use Rattle.burndown.proofs.Additions.{totals_fit}
use Rattle.burndown.proofs.laws.totals_fit.Goals as goal

pub returns : goal.returns
returns c = totals_fit
