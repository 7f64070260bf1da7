use Rattle.workflow.proofs.FitPlans.{edit_fits}
use Rattle.workflow.proofs.laws.edits_fit.Goals as goal

pub returns : goal.returns
returns c = edit_fits
