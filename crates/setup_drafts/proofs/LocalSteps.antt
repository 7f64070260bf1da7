-- What a calendar answers to a further step.
use Rattle.std.proofs.Common.{◌≡◌, true, false, Option, Some, None, arith, inl, inr, refl}
use Rattle.std.specs.Prelude.{int_lt}
use Rattle.std.specs.List.{list_all}
use Rattle.std.proofs.lemmas.Bool.{cases_Bool}
use Rattle.std.proofs.lemmas.Grind.{common_steps}
use Rattle.relative_dates.specs.declared.calendar.OffsetStep.{OffsetStep}
use Rattle.relative_dates.specs.declared.calendar.StepFault.{StepFault}
use Rattle.relative_dates.specs.declared.calendar.StepFault.TheVariants.{DayGoesBack}
use Rattle.relative_dates.specs.Calendar.{Zone, goes_back, step_fault, IsRefusal}

back_by : (zone : Zone) (step : OffsetStep) (fault : Option StepFault) → step_fault zone step ≡ fault → IsRefusal fault DayGoesBack → goes_back zone step ≡ true
unfolding step_fault
back_by zone step None e h = absurd (cc h)
back_by zone step (Some fault) e h =
    elim (cases_Bool (list_all (λ earlier. int_lt earlier.from step.from) zone.steps)) [
      | inl later ↦ elim (cases_Bool (goes_back zone step)) [ inl back ↦ back | inr on ↦ grind (arith, common_steps, later, on, e, h) ]
      | inr not_later ↦ grind (arith, common_steps, not_later, e, h)
    ]

-- it refuses a step since the day goes back only where it does
pub day_goes_back : (zone : Zone) (step : OffsetStep) → IsRefusal (step_fault zone step) DayGoesBack → goes_back zone step ≡ true
day_goes_back zone step h = back_by zone step (step_fault zone step) refl h

-- a step that it takes doesn't turn the day back
pub day_goes_on : (zone : Zone) (step : OffsetStep) → step_fault zone step ≡ None → goes_back zone step ≡ false
unfolding step_fault
day_goes_on zone step h =
    elim (cases_Bool (list_all (λ earlier. int_lt earlier.from step.from) zone.steps)) [
      | inl later ↦ elim (cases_Bool (goes_back zone step)) [ inl back ↦ grind (arith, common_steps, later, back, h) | inr on ↦ on ]
      | inr not_later ↦ grind (arith, common_steps, not_later, h)
    ]
