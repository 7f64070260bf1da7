use Rattle.std.proofs.Common.{◌≡◌, ◌∙◌, sym, ap, pos, ◌≤ℤ◌, arith, FitsSigned, w16, w32, rules}
use Rattle.std.proofs.lemmas.Int.{to_z-of_z}
use Rattle.jiff_core.proofs.SignedLemmas.{signed_arith}
use Rattle.jiff_core.specs.Calendar.{days_from_civil}
use Rattle.jiff_core.proofs.CalendarLemmas.{days_in_month_bounds}
use Rattle.jiff_core.proofs.DateLemmas.{days_from_civil-day}
use Rattle.relative_dates.specs.Civil.{month_start, month_of}
use Rattle.relative_dates.proofs.CivilLemmas.{month_begin-date, year_after}
use Rattle.relative_dates.proofs.civil.month_begin.Goals as goal

pub returns-clause-value : goal.returns-clause-value
returns-clause-value c =
    let d = c.date_of-date.result in
    let fits : FitsSigned w32 c.args.day = c.ranges.day in
    let year : FitsSigned w16 d.year = omega (arith, signed_arith, d.year_in) in
    let is = simp to_z-of_z at c.date_of-date.ensures in
    let first : c.to_unix_epoch_day.result ≡ days_from_civil d.year d.month 1 = simp to_z-of_z at c.to_unix_epoch_day.ensures.value in
    let back : FitsSigned w32 c.to_unix_epoch_day.result = search rules in
    let low : pos 0 ≤ℤ d.year = year_after d (rw is (omega (arith, signed_arith, c.requires))) in
    simp to_z-of_z (first ∙ sym (month_begin-date d low) ∙ ap (λ z. month_start (month_of z)) is)

pub returns-clause-near : goal.returns-clause-near
returns-clause-near c =
    let d = c.date_of-date.result in
    let fits : FitsSigned w32 c.args.day = c.ranges.day in
    let year : FitsSigned w16 d.year = omega (arith, signed_arith, d.year_in) in
    let is = simp to_z-of_z at c.date_of-date.ensures in
    let first : c.to_unix_epoch_day.result ≡ days_from_civil d.year d.month 1 = simp to_z-of_z at c.to_unix_epoch_day.ensures.value in
    let back : FitsSigned w32 c.to_unix_epoch_day.result = search rules in
    let day = days_from_civil-day d.year d.month d.day 1 d.day_in.0 (omega arith) in
    let long = days_in_month_bounds d.year d.month in
    simp to_z-of_z (omega (arith, signed_arith, d.day_in))
