use Rattle.std.proofs.Common.{sym, ◌∙◌, pos, get_or, ◌-◌, FitsSigned, w32, w64, rules}
use Rattle.std.proofs.lemmas.Int.{to_z-of_z}
use Rattle.relative_dates.proofs.OffsetLemmas.{minutes_from-count, last_minutes-none, last_minutes-some}
use Rattle.relative_dates.proofs.calendar.minutes_in_force.Goals as goal

pub returns-then-come-eq0 : goal.returns-then-come-eq0
returns-then-come-eq0 c =
    let fits : FitsSigned w32 c.args.first_offset = c.ranges.first_offset in
    let at_fits : FitsSigned w64 c.args.at = c.ranges.at in
    let come = simp to_z-of_z at c.steps_by-come.ensures.come in
    let to_come = simp to_z-of_z at c.steps_by-come.ensures.to_come in
    let is = minutes_from-count c.args.first_offset c.args.steps.now c.args.at c.steps_by-come.result c.steps_by-come.ensures.within come to_come in
    simp to_z-of_z (sym (is ∙ last_minutes-none _ _ _ c.if-come-eq0.true))

pub returns-else-come-eq0 : goal.returns-else-come-eq0
returns-else-come-eq0 c =
    let at_fits : FitsSigned w64 c.args.at = c.ranges.at in
    let come = simp to_z-of_z at c.steps_by-come.ensures.come in
    let to_come = simp to_z-of_z at c.steps_by-come.ensures.to_come in
    let is = minutes_from-count c.args.first_offset c.args.steps.now c.args.at c.steps_by-come.result c.steps_by-come.ensures.within come to_come in
    let value = sym (is ∙ last_minutes-some c.args.first_offset c.args.steps.now c.steps_by-come.result (record { from = pos 0; minutes = pos 0 }) c.if-come-eq0.false c.steps_by-come.ensures.within) in
    let fits : FitsSigned w32 (get_or c.args.steps.now (c.steps_by-come.result - 1) (record { from = pos 0; minutes = pos 0 })).minutes = search rules in
    simp to_z-of_z value
