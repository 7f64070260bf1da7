use Rattle.std.proofs.Common.{◌≡◌, ◌∙◌, sym, ap, pos, ◌*ℤ◌, ◌≤ℤ◌, arith, FitsSigned, w16, w32, rules}
use Rattle.std.proofs.lemmas.Int.{to_z-of_z}
use Rattle.jiff_core.proofs.SignedLemmas.{signed_arith}
use Rattle.jiff_core.specs.Calendar.{days_from_civil}
use Rattle.jiff_core.proofs.CalendarLemmas.{day_of_year_bound, days_in_year_bounds}
use Rattle.jiff_core.proofs.DateLemmas.{civil, epoch_day-ordinal}
use Rattle.std.specs.Int.{int_div_euclid}
use Rattle.relative_dates.specs.Civil.{month_start, month_of}
use Rattle.relative_dates.proofs.CivilLemmas.{year_begin-date, year_after}
use Rattle.relative_dates.proofs.civil.year_begin.Goals as goal

pub returns-clause-value : goal.returns-clause-value
returns-clause-value c =
    let d = c.date_of.result in
    let fits : FitsSigned w32 c.args.day = c.ranges.day in
    let year : FitsSigned w16 d.year = omega (arith, signed_arith, d.year_in) in
    let is = simp to_z-of_z at c.date_of.ensures in
    let first : c.to_unix_epoch_day.result ≡ days_from_civil d.year 1 1 = simp to_z-of_z at c.to_unix_epoch_day.ensures.value in
    let back : FitsSigned w32 c.to_unix_epoch_day.result = search rules in
    let low : pos 0 ≤ℤ d.year = year_after d (rw is (omega (arith, signed_arith, c.requires))) in
    simp to_z-of_z (first ∙ sym (year_begin-date d low) ∙ ap (λ z. month_start (int_div_euclid (month_of z) (pos 12) *ℤ pos 12)) is)

pub returns-clause-near : goal.returns-clause-near
returns-clause-near c =
    let d = c.date_of.result in
    let fits : FitsSigned w32 c.args.day = c.ranges.day in
    let year : FitsSigned w16 d.year = omega (arith, signed_arith, d.year_in) in
    let is = simp to_z-of_z at c.date_of.ensures in
    let first : c.to_unix_epoch_day.result ≡ days_from_civil d.year 1 1 = simp to_z-of_z at c.to_unix_epoch_day.ensures.value in
    let back : FitsSigned w32 c.to_unix_epoch_day.result = search rules in
    let day = epoch_day-ordinal d in
    let long = day_of_year_bound d.year d.month d.day (civil d) in
    let year_long = days_in_year_bounds d.year in
    simp to_z-of_z (omega (arith, signed_arith, d.day_in))
