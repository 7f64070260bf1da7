-- How many ranks there are of each length.
use Rattle.std.specs.Prelude.{ℕ, ◌≡◌, ◌+◌, ◌<◌, ◌==◌, List, Option, Some, None, length, count_by, slice_index, if◌then◌else◌}
use Rattle.rank_strings.specs.Rank.{RankParts}
use Rattle.rank_strings.specs.Text.{rank_text}
use Rattle.board.specs.Order.{Pair}

-- how many ranks have this many bytes
abbrev pub times_long : List Pair → ℕ → ℕ
times_long ps bytes = count_by (λ p. length (rank_text p.0) == bytes) ps

-- by each length the counts have how many ranks are of it
abbrev pub AreCountsOf : List Pair → List ℕ → Type 0
AreCountsOf ps counts = (bytes : ℕ) → slice_index counts bytes ≡ times_long ps bytes

-- how many of one rank, if it is there, have this many bytes
abbrev pub times_one : Option RankParts → ℕ → ℕ
times_one None bytes = 0
times_one (Some rank) bytes = if length (rank_text rank) == bytes then 1 else 0

-- a rank that was counted counts no more, and one of so many bytes is counted in its place
abbrev pub AreCountedFor : List ℕ → List ℕ → Option RankParts → ℕ → Type 0
AreCountedFor old new was bytes =
    (n : ℕ) → slice_index new n + times_one was n
    ≡ slice_index old n + (if bytes == n then 1 else 0)

-- one more is counted of this length
abbrev pub CountsOneMore : List ℕ → List ℕ → ℕ → Type 0
CountsOneMore old new bytes =
    (n : ℕ) → slice_index new n ≡ slice_index old n + (if bytes == n then 1 else 0)

-- the greatest length that is counted, or 0 where none is
pub record IsLongest (counts : List ℕ) (bytes : ℕ) : Type 0 where
  pub counted : 0 < bytes → 0 < slice_index counts bytes
  pub greatest : (k : ℕ) → bytes < k → slice_index counts k ≡ 0
