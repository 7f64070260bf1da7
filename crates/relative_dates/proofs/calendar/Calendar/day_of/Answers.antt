use Rattle.std.proofs.Common.{◌∙◌, pos, ◌+ℤ◌, ◌*ℤ◌, arith, FitsSigned, w32, w64, ap, rules}
use Rattle.std.specs.Int.{int_div_euclid}
use Rattle.std.proofs.lemmas.Int.{to_z-of_z}
use Rattle.jiff_core.proofs.SignedLemmas.{signed_arith}
use Rattle.relative_dates.proofs.OffsetLemmas.{minutes_from_in}
use Rattle.relative_dates.proofs.calendar.Calendar.day_of.Goals as goal

pub returns-clause-value : goal.returns-clause-value
returns-clause-value c =
    let r : FitsSigned w64 c.day_under.result = search rules in
    let m : FitsSigned w32 c.minutes_in_force.result = search rules in
    let at_fits : FitsSigned w64 c.args.at = c.ranges.at in
    let f : FitsSigned w32 c.self.inside.first_offset = omega (arith, signed_arith, c.self.invariant.zone.first_in) in
    let is = simp (to_z-of_z, c.deref.ensures.value) at c.minutes_in_force.ensures in
    let value = simp to_z-of_z at c.day_under.ensures in
    simp to_z-of_z (rw (← c.self.view_is) (value ∙ ap (λ m. int_div_euclid (c.args.at +ℤ (pos 60 *ℤ m)) (pos 86_400)) is))

pub returns-clause-near : goal.returns-clause-near
returns-clause-near c =
    let r : FitsSigned w64 c.day_under.result = search rules in
    let m : FitsSigned w32 c.minutes_in_force.result = search rules in
    let at_fits : FitsSigned w64 c.args.at = c.ranges.at in
    let f : FitsSigned w32 c.self.inside.first_offset = omega (arith, signed_arith, c.self.invariant.zone.first_in) in
    let is = simp (to_z-of_z, c.deref.ensures.value) at c.minutes_in_force.ensures in
    let offset = minutes_from_in c.self.inside.first_offset c.self.inside.steps.items c.args.at c.self.invariant.zone.first_in c.self.invariant.zone.steps_in in
    let value = simp to_z-of_z at c.day_under.ensures in
    simp to_z-of_z (rw (value, is) (omega (arith, signed_arith)))
