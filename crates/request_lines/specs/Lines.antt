-- The lines of an input.
use Rattle.std.specs.Prelude.{◌≡◌, ◌≢◌, ◌==◌, ◌<◌, ◌≤◌, ℕ, List, [], ◌∷◌, ◌++◌, length, if◌then◌else◌}

-- a byte at the front of the first line, which is new where there is none
abbrev pub onto : ℕ → List (List ℕ) → List (List ℕ)
onto byte [] = (byte ∷ []) ∷ []
onto byte (line ∷ lines) = (byte ∷ line) ∷ lines

-- a line ends with a line feed, or with the input where it isn't empty
abbrev pub lines : List ℕ → List (List ℕ)
lines [] = []
lines (byte ∷ bytes) = if byte == 10 then [] ∷ lines bytes else onto byte (lines bytes)

abbrev pub onto_first : ℕ → List (List ℕ) → List (List ℕ)
onto_first byte [] = []
onto_first byte (line ∷ lines) = (byte ∷ line) ∷ lines

-- the lines that have their line feed
abbrev pub whole_lines : List ℕ → List (List ℕ)
whole_lines [] = []
whole_lines (byte ∷ bytes) =
    if byte == 10 then [] ∷ whole_lines bytes else onto_first byte (whole_lines bytes)

-- no byte is a line feed
abbrev pub IsOneLine : List ℕ → Type 0
IsOneLine [] = Unit {0}
IsOneLine (byte ∷ bytes) = (byte ≢ 10) × IsOneLine bytes

-- a part of one line, of at most the limit
pub record IsLine (line : List ℕ) : Type 0 where
  pub one : IsOneLine line
  pub short : length line ≤ 65536

abbrev pub AreShort : List (List ℕ) → Type 0
AreShort [] = Unit {0}
AreShort (line ∷ lines) = (length line ≤ 65536) × AreShort lines

-- no more lines than a run takes, and none too long
pub record AreWithinLimits (all : List (List ℕ)) : Type 0 where
  pub few : length all ≤ 1000000
  pub short : AreShort all

-- a line passes its limit after these, which don't
pub record StopsAtLong (all done : List (List ℕ)) : Type 0 where
  pub long : List ℕ
  pub rest : List (List ℕ)
  pub all_is : all ≡ done ++ long ∷ rest
  pub is_long : 65536 < length long
  pub few : length done < 1000000
  pub short : AreShort done

-- more lines follow after as many as a run takes
pub record StopsAtMany (all done : List (List ℕ)) : Type 0 where
  pub rest : List (List ℕ)
  pub all_is : all ≡ done ++ rest
  pub more : 0 < length rest
  pub many : length done ≡ 1000000
  pub short : AreShort done
