-- The form of an external id.
use Rattle.std.specs.Prelude.{ℕ, ◌&&◌, List, length, nat_le, Bool}
use Rattle.std.specs.List.{list_all}
use Rattle.std.specs.Int.{is_in_range}

-- 1 to 64 printable characters of ASCII, the space among them
abbrev pub is_external : List ℕ → Bool
is_external text =
    (nat_le 1 (length text) && nat_le (length text) 64)
    && list_all (λ b. is_in_range 32 126 b) text
