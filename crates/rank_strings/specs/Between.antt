-- Which ranks lie between two neighbours, either of which may be absent.
use Rattle.std.specs.Prelude.{ℕ, ◌≡◌, ◌<◌, ◌≤◌, length, Option, IfSome}
use Rattle.rank_strings.specs.Rank.{RankParts, IsRank, IsBelow}

-- a rank of the bucket lies between the neighbours: an absent one bounds nothing
pub record LiesBetween (low high : Option RankParts) (bucket : ℕ) (r : RankParts) : Type 0 where
  pub is_rank : IsRank r
  pub in_bucket : r.bucket ≡ bucket
  pub above_low : IfSome low (λ l. IsBelow l r)
  pub below_high : IfSome high (λ h. IsBelow r h)

-- no rank between the neighbours has fewer further digits than this one
pub record IsShortest (low high : Option RankParts) (bucket : ℕ) (r : RankParts) : Type 0 where
  pub between : LiesBetween low high bucket r
  pub shortest : (s : RankParts) → LiesBetween low high bucket s
      → length r.further ≤ length s.further

-- no rank of the bucket lies between
abbrev pub HasNoRoom : Option RankParts → Option RankParts → ℕ → Type 0
HasNoRoom low high bucket = (r : RankParts) → ¬ LiesBetween low high bucket r

-- the neighbours are ranks of the bucket, and the low one is below the high one
pub record AreNeighbours (low high : Option RankParts) (bucket : ℕ) : Type 0 where
  pub in_circle : bucket < 3
  pub low_in_bucket : IfSome low (λ l. l.bucket ≡ bucket)
  pub high_in_bucket : IfSome high (λ h. h.bucket ≡ bucket)
  pub in_order : IfSome low (λ l. IfSome high (λ h. IsBelow l h))

-- the same, of ranks that are known to be ranks
pub record RanksGiven (low high : Option RankParts) (bucket : ℕ) : Type 0 where
  pub low_rank : IfSome low IsRank
  pub high_rank : IfSome high IsRank
  pub neighbours : AreNeighbours low high bucket
