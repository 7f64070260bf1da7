-- Months and weeks of the civil calendar by day numbers, where day 0 is 1 January 1970.
use Rattle.std.specs.Prelude.{ℕ, ◌+◌, ◌-◌, ◌%◌, ℤ, pos, ◌+ℤ◌, ◌-ℤ◌, ◌*ℤ◌, unsigned_abs, int_lt}
use Rattle.std.specs.Int.{int_div_euclid, int_rem_euclid, int_min}
use Rattle.jiff_core.specs.Calendar.{days_from_civil, weekday_number}
use Rattle.relative_dates.specs.Least.{least_from}

-- the first day of a month, where months are counted from January of the year 0
unfoldable pub month_start : ℤ → ℤ
month_start month =
    days_from_civil (int_div_euclid month (pos 12))
    (unsigned_abs (int_rem_euclid month (pos 12)) + 1) 1

-- the month of a day of the years 0 to 9999: the first that isn't over before it
unfoldable pub month_of : ℤ → ℤ
month_of day = least_from (λ month. int_lt day (month_start (month +ℤ pos 1))) 119_999 (pos 0)

-- the first day of the day's month
abbrev pub month_begin : ℤ → ℤ
month_begin day = month_start (month_of day)

-- the first day of the day's year
abbrev pub year_begin : ℤ → ℤ
year_begin day = month_start (int_div_euclid (month_of day) (pos 12) *ℤ pos 12)

-- the same day of the month that many months later, or that month's last day where it is shorter
unfoldable pub months_later : ℤ → ℤ → ℤ
months_later day months =
    let month = month_of day +ℤ months in
    int_min (month_start month +ℤ (day -ℤ month_begin day)) (month_start (month +ℤ pos 1) -ℤ pos 1)

-- the last day at or before the day on which a week begins: weeks begin on day 1, a Monday, to 7, a Sunday
unfoldable pub week_begin : ℕ → ℤ → ℤ
week_begin first_day day = day -ℤ pos ((weekday_number day + 8 - first_day) % 7)
