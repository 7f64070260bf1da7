use Rattle.std.proofs.Common.{refl, ◌≡◌, ◌∙◌, ap, ◌-ℤ◌, arith, FitsSigned, w32, rules}
use Rattle.std.proofs.lemmas.Int.{to_z-of_z}
use Rattle.jiff_core.proofs.SignedLemmas.{signed_arith}
use Rattle.jiff_core.specs.Calendar.{weekday_number}
use Rattle.jiff_core.specs.Date.{epoch_day}
use Rattle.relative_dates.specs.Civil.{week_begin}
use Rattle.relative_dates.proofs.civil.week_begin.Goals as goal

pub returns-clause-value : goal.returns-clause-value
unfolding week_begin
returns-clause-value c =
    let day : FitsSigned w32 c.args.day = c.ranges.day in
    let r : FitsSigned w32 c.from.result = search rules in
    let is : epoch_day c.date_of.result ≡ c.args.day = simp to_z-of_z at c.date_of.ensures in
    let weekday = c.index-weekday.ensures.value ∙ c.weekday.ensures ∙ ap weekday_number is in
    let d : FitsSigned w32 (c.args.day -ℤ c.from.result) = omega (arith, signed_arith, c.from.ensures, c.requires.day) in
    simp to_z-of_z (rw c.from.ensures (rw weekday refl))
