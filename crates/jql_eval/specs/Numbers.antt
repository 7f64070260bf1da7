-- Numbers by their digits.
use Rattle.std.specs.Prelude.{ℕ, ◌-◌, nat_lt, List, length, take, slice_index_or, min, if◌then◌else◌}
use Rattle.jql_meaning.specs.Order.{number_in}

-- the digit with so many others behind it, and 0 in front of the first
abbrev pub digit_before : List ℕ → ℕ → ℕ
digit_before digits behind =
    if nat_lt behind (length digits) then slice_index_or digits (length digits - 1 - behind) 0 - 48
    else 0

-- the number that digits write without the last ones
abbrev pub number_before : List ℕ → ℕ → ℕ
number_before digits behind = number_in (take (length digits - behind) digits)

-- so far is one number ahead of another; whoever is further ahead than 1,000 is as far as that
abbrev pub lead : ℕ → ℕ → ℕ
lead one other = min (one - other) 1_000
