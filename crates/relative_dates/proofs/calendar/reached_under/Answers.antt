use Rattle.std.proofs.Common.{◌≡◌, arith, pos, ◌-ℤ◌, ◌*ℤ◌, FitsSigned, w32, w64, rules}
use Rattle.std.specs.Int.{int_max}
use Rattle.std.proofs.lemmas.Int.{to_z-of_z}
use Rattle.jiff_core.proofs.SignedLemmas.{signed_arith}
use Rattle.relative_dates.proofs.calendar.reached_under.Goals as goal

pub returns : goal.returns
returns c =
    let s : FitsSigned w64 c.args.second = c.ranges.second in
    let r : FitsSigned w64 c.max.result = search rules in
    let w : FitsSigned w64 c.from.result = search rules in
    let g : FitsSigned w64 c.args.step.from = search rules in
    let m : FitsSigned w32 c.args.step.minutes = search rules in
    let wide : c.from.result ≡ c.args.step.minutes = simp to_z-of_z at c.from.ensures in
    let p : FitsSigned w64 (pos 60 *ℤ c.from.result) = omega (arith, signed_arith) in
    let d : FitsSigned w64 (c.args.second -ℤ (pos 60 *ℤ c.from.result)) = omega (arith, signed_arith) in
    let value : c.max.result ≡ int_max c.args.step.from (c.args.second -ℤ (pos 60 *ℤ c.from.result)) = simp to_z-of_z at c.max.ensures.value in
    simp to_z-of_z (rw wide at value)
