-- The part of a list that a line asks for.
use Rattle.std.specs.Prelude.{ℕ, ◌&&◌, Option, Some, None, codes, option_and_then, if◌then◌else◌, nat_le}
use Rattle.serde_json.specs.Data.{Data}
use Rattle.serde_json.specs.Find.{get, as_number, as_u64}

-- a whole number between bounds
abbrev pub whole_within : ℕ → ℕ → Data → Option ℕ
whole_within least most d =
    option_and_then (λ n. if nat_le least n && nat_le n most then Some n else None)
    (option_and_then as_u64 (as_number d))

-- the same of a member that may be absent, and then is that number
abbrev pub whole_or : ℕ → ℕ → ℕ → Option Data → Option ℕ
whole_or absent least most None = Some absent
whole_or absent least most (Some d) = whole_within least most d

-- how many of the list are passed over: none, where the member isn't there
abbrev pub from_if_there : Data → Option ℕ
from_if_there d = whole_or 0 0 2_000_000 (get (codes "from") d)

-- how many are told at most: as many as may be, where the member isn't there
abbrev pub count_if_there : ℕ → Data → Option ℕ
count_if_there most d = whole_or most 1 most (get (codes "count") d)

-- how many are asked for, where the member has to be there
abbrev pub count_at : ℕ → Data → Option ℕ
count_at most d = option_and_then (whole_within 1 most) (get (codes "count") d)
