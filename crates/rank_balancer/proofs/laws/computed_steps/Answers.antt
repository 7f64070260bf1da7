use Rattle.rank_balancer.proofs.Planned.{step_is_computed_law, no_other_step, no_other_refusal}
use Rattle.rank_balancer.proofs.laws.computed_steps.Goals as goal

pub returns-clause-step : goal.returns-clause-step
returns-clause-step c = step_is_computed_law

pub returns-clause-alone : goal.returns-clause-alone
returns-clause-alone c = no_other_step

pub returns-clause-refusal : goal.returns-clause-refusal
returns-clause-refusal c = no_other_refusal
