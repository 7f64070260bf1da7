use Rattle.std.proofs.Common.{sym, FitsSigned, w32, w64, pos, ◌-ℤ◌, rules, arith}
use Rattle.std.proofs.lemmas.Int.{to_z-of_z}
use Rattle.jiff_core.proofs.SignedLemmas.{signed_arith}
use Rattle.relative_dates.proofs.StepLemmas.{goes_back-is}
use Rattle.relative_dates.proofs.calendar.turns_back.Goals as goal

pub returns : goal.returns
returns c =
    let f : FitsSigned w32 c.args.first_offset = c.ranges.first_offset in
    let s : FitsSigned w64 c.args.step.from = search rules in
    let n : FitsSigned w32 c.args.step.minutes = search rules in
    let l : FitsSigned w64 (c.args.step.from -ℤ pos 1) = omega (arith, signed_arith, c.requires.step) in
    let m : FitsSigned w32 c.minutes_in_force.result = search rules in
    let r : FitsSigned w64 c.day_under.result = search rules in
    let b : FitsSigned w64 c.day_under-day_before.result = search rules in
    let is = simp to_z-of_z at c.minutes_in_force.ensures in
    let day = simp to_z-of_z at c.day_under.ensures in
    let day_before = simp to_z-of_z at c.day_under-day_before.ensures in
    let back = goes_back-is (record { first_offset = c.args.first_offset; steps = c.args.steps.now }) c.args.step c.requires.later in
    simp to_z-of_z (rw (day, day_before, is) (sym back))
