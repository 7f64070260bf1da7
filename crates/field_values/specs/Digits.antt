-- Decimal digits, and the numbers that they write.
use Rattle.std.specs.Prelude.{ℕ, ◌+◌, ◌-◌, ◌*◌, Bool, List, [], ◌∷◌}
use Rattle.std.specs.Int.{is_in_range}

-- the codes of `0` to `9`
abbrev pub is_digit : ℕ → Bool
is_digit b = is_in_range 48 57 b

-- the number that digits write, after those of n
abbrev pub read_on : ℕ → List ℕ → ℕ
read_on n [] = n
read_on n (digit ∷ digits) = read_on (10 * n + (digit - 48)) digits
