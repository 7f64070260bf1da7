use Rattle.std.proofs.Common.{refl, arith, pos, ◌-ℤ◌, ◌<ℤ◌, ◌≤ℤ◌, get_or, FitsSigned, w32, w64, rules, add-one, drop-cons}
use Rattle.std.proofs.Math.ListN.{drop_of_length-le}
use Rattle.std.proofs.lemmas.Int.{to_z-of_z}
use Rattle.jiff_core.proofs.SignedLemmas.{signed_arith}
use Rattle.relative_dates.specs.declared.calendar.OffsetStep.{OffsetStep}
use Rattle.relative_dates.proofs.FirstLemmas.{starts, goes_on, first_within, first_last}
use Rattle.relative_dates.proofs.calendar.first_moment.Goals as goal

pub loop-step-init : goal.loop-step-init
loop-step-init c =
    let f : FitsSigned w32 c.args.first_offset = c.ranges.first_offset in
    let s : FitsSigned w64 c.args.second = c.ranges.second in
    let d : FitsSigned w64 (c.args.second -ℤ pos 50_400) = omega (arith, signed_arith, c.requires.second) in
    let m : FitsSigned w32 c.minutes_in_force.result = search rules in
    let come = simp to_z-of_z at c.steps_by.ensures.come in
    let to_come = simp to_z-of_z at c.steps_by.ensures.to_come in
    let in_force = simp to_z-of_z at c.minutes_in_force.ensures in
    simp to_z-of_z (starts c.args.first_offset c.args.steps.now c.args.second (c.args.second -ℤ pos 50_400) c.steps_by.result c.minutes_in_force.result c.split_at.result.1.now refl in_force c.split_at.ensures.back c.requires.zone.first_in c.requires.zone.steps_in c.requires.zone.rising c.steps_by.ensures.within come to_come)

none : OffsetStep
none = record { from = pos 0; minutes = pos 0 }

pub returns-then-at-step : goal.returns-then-at-step
unfolding none
returns-then-at-step c =
    let f : FitsSigned w32 c.args.first_offset = c.ranges.first_offset in
    let s : FitsSigned w64 c.args.second = c.ranges.second in
    let r : FitsSigned w64 c.reached_under-at.result = search rules in
    let g : FitsSigned w64 (get_or c.split_at.result.1.now c.loop-step.step-index none).from = search rules in
    let at_is = simp to_z-of_z at c.reached_under-at.ensures in
    let less : c.reached_under-at.result <ℤ (get_or c.split_at.result.1.now c.loop-step.step-index none).from = omega (arith, signed_arith, simp to_z-of_z at c.if-at-step.true) in
    let stands = simp to_z-of_z at c.loop-step.invariant in
    let ahead = drop-cons c.split_at.result.1.now c.loop-step.step-index none c.loop-step-test.true in
    simp to_z-of_z (first_within c.args.first_offset c.args.steps.now c.args.second c.loop-step.present c.reached_under-at.result _ _ (rw ahead at stands) at_is less)

pub loop-step-preserved : goal.loop-step-preserved
unfolding none
loop-step-preserved c =
    let f : FitsSigned w32 c.args.first_offset = c.ranges.first_offset in
    let s : FitsSigned w64 c.args.second = c.ranges.second in
    let g : FitsSigned w64 (get_or c.split_at.result.1.now c.loop-step.step-index none).from = search rules in
    let r : FitsSigned w64 c.reached_under-at.result = search rules in
    let at_is = simp to_z-of_z at c.reached_under-at.ensures in
    let come : (get_or c.split_at.result.1.now c.loop-step.step-index none).from ≤ℤ c.reached_under-at.result = omega (arith, signed_arith, simp to_z-of_z at c.if-at-step.false) in
    let stands = simp to_z-of_z at c.loop-step.invariant in
    let ahead = drop-cons c.split_at.result.1.now c.loop-step.step-index none c.loop-step-test.true in
    simp to_z-of_z (rw add-one (goes_on c.args.first_offset c.args.steps.now c.args.second c.loop-step.present c.reached_under-at.result _ _ (rw ahead at stands) at_is come))

pub returns : goal.returns
returns c =
    let f : FitsSigned w32 c.args.first_offset = c.ranges.first_offset in
    let s : FitsSigned w64 c.args.second = c.ranges.second in
    let r : FitsSigned w64 c.reached_under.result = search rules in
    let at_is = simp to_z-of_z at c.reached_under.ensures in
    let stands = simp to_z-of_z at c.loop-step.invariant in
    let end = drop_of_length-le c.split_at.result.1.now c.loop-step-test.false in
    simp to_z-of_z (first_last c.args.first_offset c.args.steps.now c.args.second c.loop-step.present c.reached_under.result (rw end at stands) at_is)
