use Rattle.std.proofs.Common.{◌≡◌, pos, ◌+ℤ◌, ◌*ℤ◌, arith, FitsSigned, w32, w64, rules}
use Rattle.std.proofs.lemmas.Int.{to_z-of_z}
use Rattle.jiff_core.proofs.SignedLemmas.{signed_arith}
use Rattle.relative_dates.proofs.calendar.day_under.Goals as goal

pub returns : goal.returns
returns c =
    let m : FitsSigned w32 c.args.minutes = c.ranges.minutes in
    let w : FitsSigned w64 c.from.result = search rules in
    let q : FitsSigned w64 c.div_euclid.result = search rules in
    let at_fits : FitsSigned w64 c.args.at = c.ranges.at in
    let wide : c.from.result ≡ c.args.minutes = simp to_z-of_z at c.from.ensures in
    let p : FitsSigned w64 (pos 60 *ℤ c.from.result) = omega (arith, signed_arith) in
    let s : FitsSigned w64 (c.args.at +ℤ (pos 60 *ℤ c.from.result)) = omega (arith, signed_arith) in
    let value = simp to_z-of_z at c.div_euclid.ensures in
    simp to_z-of_z (rw wide at value)
