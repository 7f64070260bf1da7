use Rattle.std.proofs.Common.{drop}
use Rattle.relative_dates.proofs.FirstLemmas.{StandsAt}
use Rattle.relative_dates.proofs.calendar.first_moment.Given as goal

abbrev pub invariant-loop-step : goal.invariant-loop-step
invariant-loop-step l = StandsAt l.first_offset l.steps l.second l.present (drop l.step-index l.later)
