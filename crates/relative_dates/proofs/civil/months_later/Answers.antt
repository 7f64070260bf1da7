use Rattle.std.proofs.Common.{◌≡◌, ◌∙◌, sym, ap, ◌+ℤ◌, arith, FitsSigned, w32, rules}
use Rattle.std.proofs.lemmas.Int.{to_z-of_z}
use Rattle.jiff_core.proofs.SignedLemmas.{signed_arith}
use Rattle.jiff_core.specs.Date.{epoch_day}
use Rattle.jiff_span.specs.Months.{month_number, IsShiftable}
use Rattle.relative_dates.specs.Civil.{months_later}
use Rattle.relative_dates.proofs.CivilLemmas.{months_later-date, year_after, year_before, IsMonth}
use Rattle.relative_dates.proofs.civil.months_later.Goals as goal

pub unreachable-requires : goal.unreachable-requires
unreachable-requires c =
    let d = c.date_of.result in
    let day : FitsSigned w32 c.args.day = c.ranges.day in
    let months : FitsSigned w32 c.args.months = c.ranges.months in
    let is : epoch_day d ≡ c.args.day = simp to_z-of_z at c.date_of.ensures in
    let year = year_after d (rw is (omega (arith, signed_arith, c.requires.day))) in
    let before = year_before d (rw is (omega (arith, signed_arith, c.requires.day))) in
    let can : IsShiftable d c.args.months = omega (arith, signed_arith, c.requires.months, d.month_in) in
    let fails = simp to_z-of_z at c.in-Err.ensures.succeeds in
    absurd (let no = fails.1 can in cc)

pub returns-clause-value : goal.returns-clause-value
returns-clause-value c =
    let d = c.date_of.result in
    let day : FitsSigned w32 c.args.day = c.ranges.day in
    let months : FitsSigned w32 c.args.months = c.ranges.months in
    let is : epoch_day d ≡ c.args.day = simp to_z-of_z at c.date_of.ensures in
    let to : c.to_unix_epoch_day.result ≡ epoch_day c.in-Ok.later = c.to_unix_epoch_day.ensures.value in
    let back : FitsSigned w32 c.to_unix_epoch_day.result = search rules in
    let value = simp to_z-of_z at c.in-Ok.ensures.value in
    let year = year_after d (rw is (omega (arith, signed_arith, c.requires.day))) in
    let before = year_before d (rw is (omega (arith, signed_arith, c.requires.day))) in
    let in' : IsMonth (month_number d +ℤ c.args.months) = omega (arith, signed_arith, c.requires.months, d.month_in) in
    simp to_z-of_z (to ∙ value ∙ sym (months_later-date d c.args.months year in') ∙ ap (λ z. months_later z c.args.months) is)
