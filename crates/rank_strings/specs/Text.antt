-- The text form of a rank: `0|i00000:` and, with further digits, `0|i00000:0i`.
use Rattle.std.specs.Prelude.{ℕ, ◌≡◌, ◌+◌, List, ◌∷◌, ◌++◌, map, nat_lt, if◌then◌else◌}
use Rattle.rank_strings.specs.Rank.{RankParts, IsRank}

-- digits are written as `0` to `9` and then `a` to `z`
abbrev pub digit_code : ℕ → ℕ
digit_code d = if nat_lt d 10 then 48 + d else 87 + d

-- the text of a rank is its bucket, `|`, the six digits, `:` and the further digits
abbrev pub rank_text : RankParts → List ℕ
rank_text r = (48 + r.bucket) ∷ 124 ∷ (map digit_code r.front ++ 58 ∷ map digit_code r.further)

-- the bytes are the text of this rank
pub record IsTextOf (bytes : List ℕ) (r : RankParts) : Type 0 where
  pub is_rank : IsRank r
  pub written : rank_text r ≡ bytes
