-- The years 1970 to 2099, which are those of all moments and days.
use Rattle.std.specs.Prelude.{◌≡◌, ℕ, ◌+◌, refl, ℤ, pos, ◌*ℤ◌, ◌+ℤ◌}
use Rattle.field_values.specs.declared.moment.TheConstants.Moment.{LAST as second_constant}
use Rattle.field_values.specs.declared.numbers.TheConstants.Day.{LAST as day_constant}

-- the last second of the year 2099, in seconds since 1970-01-01 00:00:00 UTC
abbrev pub last_second : ℕ
last_second = second_constant

-- 2099-12-31, in days since 1970-01-01
abbrev pub last_day : ℤ
last_day = day_constant.0

-- the last second is that of the last day
pub ends_together : pos (last_second + 1) ≡ pos 86_400 *ℤ (last_day +ℤ pos 1)
ends_together = refl
