-- Where an order changes from one bucket to another.
use Rattle.std.specs.Prelude.{ℕ, ◌≡◌, ◌<◌, ◌≤◌, Bool, false, nat_le, List, length, slice_index_or, Option, Some, None}
use Rattle.rank_strings.specs.Rank.{RankParts}
use Rattle.board.specs.Order.{Pair}
use Rattle.board.specs.Table.{nothing}

abbrev pub bucket_at : List Pair → ℕ → ℕ
bucket_at ps place = let p = slice_index_or ps place nothing in p.0.bucket

-- a rank that an issue has is in a bucket up to this one
abbrev pub is_up_to : ℕ → Option RankParts → Bool
is_up_to bucket None = false
is_up_to bucket (Some rank) = nat_le rank.bucket bucket

-- the first pairs, and no others, are in buckets up to this one
pub record IsBorder (ps : List Pair) (bucket border : ℕ) : Type 0 where
  pub in_range : border ≤ length ps
  pub up_to : (k : ℕ) → k < border → bucket_at ps k ≤ bucket
  pub beyond : (k : ℕ) → border ≤ k → k < length ps → bucket < bucket_at ps k

-- this pair stands at this place
abbrev pub StandsAt : List Pair → ℕ → Option Pair → Type 0
StandsAt ps place found = (place < length ps) × (found ≡ Some (slice_index_or ps place nothing))

-- the first pairs are in one bucket, and all others in another one
pub record IsParted (ps : List Pair) (low high border : ℕ) : Type 0 where
  pub in_range : border ≤ length ps
  pub below : (k : ℕ) → k < border → bucket_at ps k ≡ low
  pub above : (k : ℕ) → border ≤ k → k < length ps → bucket_at ps k ≡ high
