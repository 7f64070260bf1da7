-- Numbers that digits write. Zeros may stand before them.
use Rattle.std.specs.Prelude.{ℕ, List, length, Bool, ◌&&◌, nat_lt, nat_le, Option, Some, None, if◌then◌else◌}
use Rattle.std.specs.List.{list_all}
use Rattle.field_values.specs.Digits.{is_digit, read_on}

-- digits alone, and at least one
abbrev pub is_number : List ℕ → Bool
is_number text = nat_lt 0 (length text) && list_all is_digit text

-- a number between bounds
abbrev pub within : ℕ → ℕ → ℕ → Option ℕ
within least most n = if nat_le least n && nat_le n most then Some n else None

-- the number between bounds that a text writes
abbrev pub number_within : ℕ → ℕ → List ℕ → Option ℕ
number_within least most text = if is_number text then within least most (read_on 0 text) else None
