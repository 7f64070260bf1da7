-- The year, the month and the day of the month of a day, by counting. A day is a number of days since 1970-01-01.
use Rattle.std.specs.Prelude.{ℕ, zero, suc, ◌+◌, Bool, ◌&&◌, if◌then◌else◌, ℤ, pos, ◌-ℤ◌, int_le, unsigned_abs}
use Rattle.field_values.specs.Years.{last_day}
use Rattle.jiff_core.specs.Calendar.{days_from_civil}

-- 1970-01-01 to 2099-12-31
abbrev pub is_day : ℤ → Bool
is_day day = int_le (pos 0) day && int_le day last_day

-- how many of the numbers from 1 to n pass a test
unfoldable pub count_up_to : ℕ → (ℕ → Bool) → ℕ
count_up_to zero test = 0
count_up_to (suc n) test = count_up_to n test + (if test (suc n) then 1 else 0)

-- the first of the month is the day or one before it
abbrev pub has_begun : ℕ → ℕ → ℤ → Bool
has_begun y m day = int_le (days_from_civil (pos y) m 1) day

-- the year is 1970, and one more for each year from 1971 to 2099 that has begun by the day
unfoldable pub year_of : ℤ → ℕ
year_of day = 1970 + count_up_to 129 (λ n. has_begun (1970 + n) 1 day)

-- the month is 1, and one more for each month from February to December of that year that has begun by the day
unfoldable pub month_of : ℤ → ℕ
month_of day = 1 + count_up_to 11 (λ n. has_begun (year_of day) (1 + n) day)

-- the day of the month is 1, and one more for each day since the first of the month
unfoldable pub day_of_month : ℤ → ℕ
day_of_month day = 1 + unsigned_abs (day -ℤ days_from_civil (pos (year_of day)) (month_of day) 1)
