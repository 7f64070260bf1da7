use Rattle.std.proofs.Common.{refl, FitsSigned, w32}
use Rattle.std.proofs.lemmas.Int.{to_z-of_z}
use Rattle.relative_dates.specs.Calendar.{step_at}
use Rattle.setup_drafts.proofs.LocalSteps.{day_goes_back, day_goes_on}
use Rattle.setup_drafts.specs.Offsets.{turns_back}
use Rattle.setup_drafts.proofs.draft.offset.takes_step.Goals as goal

pub returns-in-Ok-clause-told : goal.returns-in-Ok-clause-told
unfolding turns_back
returns-in-Ok-clause-told c =
    let m : FitsSigned w32 c.args.minutes = c.ranges.minutes in
    let h = c.in-Ok.ensures in
    let taken = simp to_z-of_z at h.ok in
    rw (day_goes_on c.args.calendar.now.zone (step_at c.args.from c.args.minutes) taken.0) refl

pub returns-in-Err-DayGoesBack-clause-told : goal.returns-in-Err-DayGoesBack-clause-told
unfolding turns_back
returns-in-Err-DayGoesBack-clause-told c =
    let m : FitsSigned w32 c.args.minutes = c.ranges.minutes in
    let h = c.in-Err-DayGoesBack.ensures in
    let refused = rw c.in-Err-DayGoesBack.field-0-is at h.refused in
    let stepped = simp to_z-of_z at refused in
    rw (day_goes_back c.args.calendar.now.zone (step_at c.args.from c.args.minutes) stepped) refl
