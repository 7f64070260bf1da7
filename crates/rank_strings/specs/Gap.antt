-- Which digit can stand behind further digits that two neighbours share, by depth.
use Rattle.std.specs.Prelude.{ℕ, zero, suc, ◌≡◌, ◌+◌, ◌-◌, ◌/◌, ◌<◌, ◌≤◌, ◌==◌, List, [], ◌∷◌, length, slice_index, drop, nat_lt, if◌then◌else◌}

-- the lowest digit above the low neighbour's at this depth, where the digits before are its own: behind its end stand zeros
abbrev pub lowest_at : List ℕ → ℕ → ℕ
lowest_at low depth = slice_index low depth + 1

-- the highest digit below the high neighbour at this depth, where the digits before are its own: its last digit
-- is too high, and behind its end nothing bounds
abbrev pub highest_at : List ℕ → ℕ → ℕ
highest_at high depth =
    if nat_lt (depth + 1) (length high) then slice_index high depth
    else (if depth + 1 == length high then slice_index high depth - 1 else 35)

-- the low neighbour's first digits, with zeros behind its end
abbrev pub padded : ℕ → List ℕ → List ℕ
padded zero low = []
padded (suc n) low = slice_index low 0 ∷ padded n (drop 1 low)

-- no digit fits before this depth
abbrev pub HasNoGapBefore : List ℕ → List ℕ → ℕ → Type 0
HasNoGapBefore low high depth = (k : ℕ) → k < depth → highest_at high k < lowest_at low k

-- this is the least depth at which a digit fits, and the digit is halfway between those that fit
pub record IsGap (low high : List ℕ) (depth digit : ℕ) : Type 0 where
  pub in_room : depth < 245
  pub none_before : HasNoGapBefore low high depth
  pub fits : lowest_at low depth ≤ highest_at high depth
  pub halfway : digit ≡ (lowest_at low depth + highest_at high depth) / 2
