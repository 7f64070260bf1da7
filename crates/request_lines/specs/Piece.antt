-- The pieces in which a source in memory gives its bytes.
use Rattle.std.specs.Prelude.{ℕ, min, nat_lt, Option, Some, None, if◌then◌else◌}

-- a piece has at least one byte
abbrev pub some_bytes : ℕ → ℕ
some_bytes piece = if nat_lt piece 1 then 1 else piece

-- how many of the bytes that are left a read gives, in a room of that length: as many as its piece has, and after the last
-- piece as many as there is room for
abbrev pub piece_len : Option ℕ → ℕ → ℕ → ℕ
piece_len None room left = min room left
piece_len (Some piece) room left = min (min (some_bytes piece) room) left
