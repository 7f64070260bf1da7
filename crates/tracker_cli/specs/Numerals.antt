-- Numbers in words.
use Rattle.std.specs.Prelude.{◌≡◌, ◌≤◌, ℕ, List, decimal}

-- the text is the digits of a number of this range, with no zero before them
abbrev pub IsNumberOf : ℕ → ℕ → List ℕ → ℕ → Type 0
IsNumberOf least most text n = (text ≡ decimal n) × (least ≤ n) × (n ≤ most)

-- a port, which is a number from 1 to 65,535
abbrev pub IsPort : List ℕ → ℕ → Type 0
IsPort text port = IsNumberOf 1 65_535 text port
