-- Months by number: they follow one another, each day has one, and moving by months keeps the order of days.
use Rattle.std.proofs.Common.{◌≡◌, ℕ, ◌+◌, ◌-◌, ◌≤◌, inl, inr, refl, sym, ap, ◌∙◌, arith, ℤ, pos, neg_ℤ, ◌+ℤ◌, ◌*ℤ◌, ◌<ℤ◌, ◌≤ℤ◌, unsigned_abs, min}
use Rattle.std.specs.Prelude.{int_lt}
use Rattle.std.specs.Int.{int_div_euclid, int_rem_euclid}
use Rattle.std.proofs.lemmas.Int.{ints, clamps, by_lt_z}
use Rattle.std.proofs.lemmas.Bool.{cases_lt}
use Rattle.jiff_core.specs.declared.civil.date.Date.{Date}
use Rattle.jiff_core.specs.Calendar.{IsBetween, IsYear, IsCivilDate, days_in_month, day_count, days_from_civil}
use Rattle.jiff_core.specs.Date.{epoch_day}
use Rattle.jiff_core.proofs.SignedLemmas.{signed_arith}
use Rattle.jiff_core.proofs.CalendarLemmas.{days_in_month_bounds, days_from_civil-day_count, day_count-lt_year}
use Rattle.jiff_core.proofs.MarchLemmas.{day_count-early}
use Rattle.jiff_core.proofs.DateLemmas.{civil, days_from_civil-day, days_from_civil-next_month, days_from_civil-next_year}
use Rattle.jiff_span.specs.Months.{month_number, add_months}
use Rattle.jiff_span.proofs.MonthLemmas.{days_from_civil-month}
use Rattle.relative_dates.specs.Civil.{month_start, month_of, months_later}
use Rattle.relative_dates.proofs.FirstLemmas.{least_from-is}

-- the year and the month of a month's number
abbrev pub year_no : ℤ → ℤ
year_no n = int_div_euclid n (pos 12)

abbrev pub month_no : ℤ → ℕ
month_no n = unsigned_abs (int_rem_euclid n (pos 12)) + 1

-- months whose years lie in the calendar, by a wide margin
abbrev pub IsMonth : ℤ → Type 0
IsMonth n = IsBetween (neg_ℤ (pos 119_988)) (pos 119_999) n

month_parts : (n : ℤ) → (year_no n *ℤ pos 12) +ℤ pos (month_no n - 1) ≡ n
month_parts n = omega (arith, signed_arith)

month_no_in : (n : ℤ) → (1 ≤ month_no n) × (month_no n ≤ 12)
month_no_in n = omega (arith, signed_arith)

year_in : (n : ℤ) → IsMonth n → IsYear (year_no n)
year_in n h = omega (arith, signed_arith)

first_civil : (n : ℤ) → IsMonth n → IsCivilDate (year_no n) (month_no n) 1
first_civil n h =
    let long = days_in_month_bounds (year_no n) (month_no n) in
    (year_in n h, month_no_in n, (omega arith, omega arith))

-- a month that has a year and a number of its own begins on its first day
pub month_start-civil : (n y : ℤ) (m : ℕ) → n ≡ (y *ℤ pos 12) +ℤ pos (m - 1) → 1 ≤ m → m ≤ 12 → month_start n ≡ days_from_civil y m 1
unfolding month_start
month_start-civil n y m e low high =
    let year : year_no n ≡ y = omega (arith, signed_arith) in
    let month : month_no n ≡ m = omega (arith, signed_arith) in
    rw (year, month) refl

-- a later month begins later
pub month_start-lt : (n k : ℤ) → IsMonth n → n <ℤ k → month_start n <ℤ month_start k
unfolding month_start
month_start-lt n k in' less =
    days_from_civil-month (year_no n) (year_no k) (month_no n) (month_no k) 1 1 (first_civil n in') (month_no_in k).0 (month_no_in k).1 (omega arith) (rw (month_parts n, month_parts k) less)

pub month_start-le : (n k : ℤ) → IsMonth n → n ≤ℤ k → month_start n ≤ℤ month_start k
month_start-le n k in' le =
    by_lt_z n k
    (λ less. omega (arith, signed_arith, month_start-lt n k in' less))
    (λ more. let same : n ≡ k = omega (arith, signed_arith) in rw same (omega (arith, signed_arith)))

-- the next month begins after the days of this one
pub month_start-next : (n : ℤ) → IsMonth n → month_start (n +ℤ pos 1) ≡ month_start n +ℤ pos (days_in_month (year_no n) (month_no n))
month_start-next n in' =
    let y = year_no n in
    let m = month_no n in
    let here = month_start-civil n y m (sym (month_parts n)) (month_no_in n).0 (month_no_in n).1 in
    let long = days_in_month_bounds y m in
    elim (cases_lt m 12) [
      | inl within ↦
          let there = month_start-civil (n +ℤ pos 1) y (m + 1) (omega (arith, signed_arith, month_parts n)) (omega arith) (omega arith) in
          rw (here, there) (omega (arith, signed_arith, days_from_civil-next_month y m (days_in_month y m) (month_no_in n).0 refl, days_from_civil-day y m (days_in_month y m) 1 (omega arith) (omega arith)))
      | inr last ↦
          let december : m ≡ 12 = omega (arith, (month_no_in n).1) in
          let there = month_start-civil (n +ℤ pos 1) (y +ℤ pos 1) 1 (omega (arith, signed_arith, month_parts n)) (omega arith) (omega arith) in
          rw (here, there, december) (omega (arith, signed_arith, days_from_civil-next_year y (y +ℤ pos 1) (omega (arith, signed_arith, year_in n in')) refl, days_from_civil-day y 12 31 1 (omega arith) (omega arith)))
    ]

-- the month of a date
pub month_of-date : (d : Date) → pos 0 ≤ℤ d.year → month_of (epoch_day d) ≡ month_number d
unfolding month_of
month_of-date d low =
    let n = month_number d in
    let in' : IsMonth n = omega (arith, signed_arith, d.year_in, d.month_in, low) in
    let here = month_start-civil n d.year d.month refl d.month_in.0 d.month_in.1 in
    let year : year_no n ≡ d.year = omega (arith, signed_arith, d.month_in) in
    let month : month_no n ≡ d.month = omega (arith, signed_arith, d.month_in) in
    let next = rw (year, month) at (month_start-next n in') in
    let day = days_from_civil-day d.year d.month d.day 1 d.day_in.0 (omega arith) in
    let after : epoch_day d <ℤ month_start (n +ℤ pos 1) = omega (arith, signed_arith, d.day_in) in
    let begun : month_start n ≤ℤ epoch_day d = omega (arith, signed_arith, d.day_in) in
    least_from-is (λ month. int_lt (epoch_day d) (month_start (month +ℤ pos 1))) 119_999 (pos 0) n
    (omega (arith, signed_arith, d.month_in, low))
    (omega (arith, signed_arith, d.year_in, d.month_in))
    (grind (arith, ints))
    (λ e from less. let before = month_start-le (e +ℤ pos 1) n (omega (arith, signed_arith, in')) (omega (arith, signed_arith)) in
    let not_after : month_start (e +ℤ pos 1) ≤ℤ epoch_day d = omega (arith, signed_arith) in
    grind (arith, ints))

-- the first day of the date's month and of its year
pub month_begin-date : (d : Date) → pos 0 ≤ℤ d.year → month_start (month_of (epoch_day d)) ≡ days_from_civil d.year d.month 1
month_begin-date d low = ap month_start (month_of-date d low) ∙ month_start-civil (month_number d) d.year d.month refl d.month_in.0 d.month_in.1

pub year_begin-date : (d : Date) → pos 0 ≤ℤ d.year → month_start (int_div_euclid (month_of (epoch_day d)) (pos 12) *ℤ pos 12) ≡ days_from_civil d.year 1 1
year_begin-date d low =
    let year : int_div_euclid (month_number d) (pos 12) ≡ d.year = omega (arith, signed_arith, d.month_in) in
    rw (month_of-date d low) (month_start-civil _ d.year 1 (rw year (omega (arith, signed_arith))) (omega arith) (omega arith))

-- months later by the parts of a date are months later by number
pub months_later-date : (d : Date) (k : ℤ) → pos 0 ≤ℤ d.year → IsMonth (month_number d +ℤ k) → months_later (epoch_day d) k ≡ add_months d k
unfolding months_later
months_later-date d k low in' =
    let n = month_number d in
    let y = year_no (n +ℤ k) in
    let m = month_no (n +ℤ k) in
    let there = month_start-civil (n +ℤ k) y m (sym (month_parts (n +ℤ k))) (month_no_in (n +ℤ k)).0 (month_no_in (n +ℤ k)).1 in
    let after = month_start-next (n +ℤ k) in' in
    let here = month_start-civil n d.year d.month refl d.month_in.0 d.month_in.1 in
    let long = days_in_month_bounds y m in
    let day = days_from_civil-day d.year d.month d.day 1 d.day_in.0 (omega arith) in
    let later = days_from_civil-day y m (min d.day (days_in_month y m)) 1 (omega (arith, d.day_in.0)) (omega arith) in
    rw (month_of-date d low) (omega (arith, signed_arith, clamps, d.day_in.0))

-- a day that isn't long ago is of a year from 0 on
pub year_after : (d : Date) → neg_ℤ (pos 700_000) ≤ℤ epoch_day d → pos 0 ≤ℤ d.year
year_after d h =
    by_lt_z d.year (pos 0)
    (λ before.
    let less = day_count-lt_year d.year d.month d.day (pos 0) 1 1 (civil d) (omega arith) before in
    let zero_year : day_count (pos 0) 1 1 ≡ 3_652_425 = day_count-early (pos 0) 9999 1 1 refl (omega arith) (omega arith) (omega arith) in
    absurd (omega (arith, signed_arith, days_from_civil-day_count d.year d.month d.day)))
    (λ from. from)

-- and one that isn't far ahead of a year up to 2999
pub year_before : (d : Date) → epoch_day d ≤ℤ pos 300_000 → d.year ≤ℤ pos 2999
year_before d h =
    by_lt_z (pos 2999) d.year
    (λ after.
    let late = days_from_civil-month (pos 2999) d.year 12 d.month 31 d.day ((omega (arith, signed_arith), omega (arith, signed_arith)), (omega arith, omega arith), (omega arith, omega arith)) d.month_in.0 d.month_in.1 d.day_in.0 (omega (arith, signed_arith, d.month_in)) in
    let year_3000 : day_count (pos 3000) 1 1 ≡ 4_748_153 = day_count-early (pos 3000) 12999 1 1 refl (omega arith) (omega arith) (omega arith) in
    absurd (omega (arith, signed_arith, days_from_civil-day_count (pos 3000) 1 1, days_from_civil-next_year (pos 2999) (pos 3000) (omega (arith, signed_arith)) refl)))
    (λ up_to. up_to)
