-- Where a rank parts the pairs, and where a pair of this rank goes among others.
use Rattle.std.specs.Prelude.{ℕ, ◌≡◌, ◌≢◌, ◌+◌, ◌<◌, ◌≤◌, Bool, false, List, length, Option, Some, None, slice_index_or}
use Rattle.std.specs.declared.cmp.Ordering.{Ordering}
use Rattle.std.specs.declared.cmp.Ordering.TheVariants.{Less, Equal, Greater}
use Rattle.std.specs.Ordering.{is_lt}
use Rattle.rank_strings.specs.Rank.{RankParts, IsRank, rank_cmp}
use Rattle.board.specs.Order.{Pair}
use Rattle.board.specs.Table.{nothing}

abbrev pub rank_at : List Pair → ℕ → RankParts
rank_at ps place = let p = slice_index_or ps place nothing in p.0

-- a rank that an issue has is less than this one
abbrev pub is_below : Option RankParts → RankParts → Bool
is_below None rank = false
is_below (Some own) rank = is_lt (rank_cmp own rank)

-- how two issues stand to each other by their ranks; one that has none stands behind all that have one
abbrev pub compared : Option RankParts → Option RankParts → Ordering
compared (Some one) (Some other) = rank_cmp one other
compared (Some one) None = Less
compared None (Some other) = Greater
compared None None = Equal

-- the ranks of the first pairs, and no others, are less than this one
pub record IsFront (ps : List Pair) (rank : RankParts) (count : ℕ) : Type 0 where
  pub is_rank : IsRank rank
  pub in_range : count ≤ length ps
  pub below : (k : ℕ) → k < count → rank_cmp (rank_at ps k) rank ≡ Less
  pub not_below : (k : ℕ) → count ≤ k → k < length ps → rank_cmp (rank_at ps k) rank ≢ Less

-- the others before a place are below the rank, and those from there on above it
pub record Fits (rest : List Pair) (rank : RankParts) (to : ℕ) : Type 0 where
  pub in_range : to ≤ length rest
  pub below : (k : ℕ) → k < to → rank_cmp (rank_at rest k) rank ≡ Less
  pub above : (k : ℕ) → to ≤ k → k < length rest → rank_cmp rank (rank_at rest k) ≡ Less

-- where the pair goes among the others: behind as many of them as are below it. They are as many as were below in the whole list,
-- but for the issue's own pair
pub record GoesTo (place below to : ℕ) : Type 0 where
  pub later : place < below → to + 1 ≡ below
  pub earlier : below ≤ place → to ≡ below
