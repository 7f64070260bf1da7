use Rattle.workflow.proofs.FitPlans.{plan_fits}
use Rattle.workflow.proofs.SoundSetups.{sound_transition}
use Rattle.workflow.proofs.laws.plans_fit.Goals as goal

pub returns : goal.returns
returns c = λ setup h caller place t inputs at sound is. plan_fits setup h caller t inputs at (sound_transition setup place t sound is)
