-- The years up to 2099, for which dates are counted.
use Rattle.std.specs.Prelude.{ℕ}

-- the last second of the year 2099, in seconds since 1970-01-01 00:00:00 UTC
abbrev pub last_second : ℕ
last_second = 4_102_444_799
