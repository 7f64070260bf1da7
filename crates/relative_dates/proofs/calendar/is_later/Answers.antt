use Rattle.std.proofs.Common.{FitsSigned, w64, pos, get_or, length, ◌-◌, rules}
use Rattle.std.proofs.lemmas.Int.{to_z-of_z}
use Rattle.relative_dates.specs.declared.calendar.OffsetStep.{OffsetStep}
use Rattle.relative_dates.proofs.StepLemmas.{last_tells, none_before}
use Rattle.relative_dates.proofs.calendar.is_later.Goals as goal

none : OffsetStep
none = record { from = pos 0; minutes = pos 0 }

pub returns-then-count-eq0 : goal.returns-then-count-eq0
returns-then-count-eq0 c = none_before _ _ c.if-count-eq0.true

pub returns-else-count-eq0 : goal.returns-else-count-eq0
unfolding none
returns-else-count-eq0 c =
    let from : FitsSigned w64 c.args.from = c.ranges.from in
    let last : FitsSigned w64 (get_or c.args.steps.now (length c.args.steps.now - 1) none).from = search rules in
    simp to_z-of_z (last_tells _ _ _ c.requires c.if-count-eq0.false)
