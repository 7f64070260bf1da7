-- Where an issue is to stand, and the rank that puts it there.
use Rattle.std.specs.Prelude.{ℕ, ◌≡◌, ◌≢◌, ◌+◌, ◌≤◌, ◌==◌, ◌&&◌, List, length, slice_get, option_map, Bool, true, false, Option, Some, None, IfSome, if◌then◌else◌}
use Rattle.field_values.specs.declared.numbers.IssueNo.{IssueNo}
use Rattle.rank_strings.specs.Rank.{RankParts}
use Rattle.rank_strings.specs.Chosen.{IsChosen}
use Rattle.rank_strings.specs.declared.fault.RankFault.{RankFault}
use Rattle.rank_strings.specs.declared.fault.RankFault.TheVariants.{Exhausted, Memory}
use Rattle.rank_strings.specs.NoRoom.{ExplainsFault}
use Rattle.board.specs.declared.place.Place.{Place}
use Rattle.board.specs.declared.place.Place.TheVariants.{Before, After, Last}
use Rattle.board.specs.Order.{Pair, IsIn, places_before, place_in, pair_before, rank_in, without}

-- the order without the issue that moves; a new issue isn't in it
abbrev pub others : List Pair → Option IssueNo → List Pair
others ps None = ps
others ps (Some issue) = without issue.0 ps

-- how many of the other issues stand before the place
abbrev pub above_place : List Pair → Place → ℕ
above_place rest (Before other) = places_before rest other.0
above_place rest (After other) = places_before rest other.0 + 1
above_place rest Last = length rest

-- the place of the issue that moves, if it is one
abbrev pub own_place : List Pair → Option IssueNo → Option ℕ
own_place ps None = None
own_place ps (Some issue) = place_in ps issue.0

abbrev pub gap : List Pair → Option IssueNo → Place → ℕ
gap ps issue place = above_place (others ps issue) place

-- the issue stands just there: as many issues are before it as before the place
abbrev pub stands_at : List Pair → Option IssueNo → Place → Bool
stands_at ps None place = false
stands_at ps (Some issue) place = places_before ps issue.0 == gap ps (Some issue) place

-- the ranks on both sides of a gap between pairs
abbrev pub rank_above : List Pair → ℕ → Option RankParts
rank_above ps place = option_map (λ p. p.0) (pair_before ps place)

abbrev pub rank_below : List Pair → ℕ → Option RankParts
rank_below ps place = option_map (λ p. p.0) (slice_get ps place)

-- a pair at a place is one of the two beside a gap
abbrev pub IsBeside : ℕ → ℕ → Type 0
IsBeside place above = (place ≤ above) × (above ≤ place + 1)

-- the bucket of a place between two ranks, the low one first: theirs, or of two buckets the one that follows on the other in
-- the circle 0, 1, 2, 0
abbrev pub bucket_between : ℕ → ℕ → ℕ
bucket_between low high = if (low == 0) && (high == 2) then 0 else high

-- beside one rank the bucket is its own, and of an empty order the one that is given
abbrev pub bucket_beside : Option RankParts → Option RankParts → ℕ → ℕ
bucket_beside None None empty = empty
bucket_beside (Some low) None empty = low.bucket
bucket_beside None (Some high) empty = high.bucket
bucket_beside (Some low) (Some high) empty = bucket_between low.bucket high.bucket

-- a neighbour decides where it is in the bucket of the place
abbrev pub if_in : ℕ → Option RankParts → Option RankParts
if_in bucket None = None
if_in bucket (Some r) = if r.bucket == bucket then Some r else None

-- the rank that is chosen between the neighbours of a place, of which those in its bucket decide
abbrev pub IsChosenBeside : Option RankParts → Option RankParts → ℕ → RankParts → Type 0
IsChosenBeside low high empty rank =
    IsChosen (if_in (bucket_beside low high empty) low) (if_in (bucket_beside low high empty) high)
    (bucket_beside low high empty) rank

-- why there is none: no rank of the bucket lies between the neighbours that decide
abbrev pub ExplainsBeside : Option RankParts → Option RankParts → ℕ → RankFault → Type 0
ExplainsBeside low high empty fault =
    ExplainsFault (if_in (bucket_beside low high empty) low)
    (if_in (bucket_beside low high empty) high) (bucket_beside low high empty) fault

-- the other issue that a place names
abbrev pub named_by : Place → Option IssueNo
named_by (Before other) = Some other
named_by (After other) = Some other
named_by Last = None

-- the named issues stand in the order, and differ
pub record AreNamed (ps : List Pair) (issue : Option IssueNo) (place : Place) : Type 0 where
  pub issue_there : IfSome issue (λ i. IsIn ps i.0)
  pub other_there : IfSome (named_by place) (λ o. IsIn ps o.0)
  pub differ : IfSome issue (λ i. IfSome (named_by place) (λ o. i.0 ≢ o.0))

-- the rank puts the issue there: it is the one that the issue has where it stands there, and else the one that is chosen between
-- those of the other issues that are beside the place
pub record IsRankFor (ps : List Pair) (issue : Option IssueNo) (place : Place) (empty : ℕ)
    (rank : RankParts) : Type 0 where
  pub kept : (i : IssueNo) → issue ≡ Some i → stands_at ps issue place ≡ true
      → rank_in ps i.0 ≡ Some rank
  pub moved : stands_at ps issue place ≡ false →
      IsChosenBeside (rank_above (others ps issue) (gap ps issue place))
      (rank_below (others ps issue) (gap ps issue place)) empty rank

-- no rank is given where the issue doesn't stand there and none lies between the neighbours that decide
abbrev pub ExplainsNoRank : List Pair → Option IssueNo → Place → ℕ → RankFault → Type 0
ExplainsNoRank ps issue place empty (Exhausted low high) =
    (stands_at ps issue place ≡ false) ×
    ExplainsBeside (rank_above (others ps issue) (gap ps issue place))
    (rank_below (others ps issue) (gap ps issue place)) empty (Exhausted low high)
ExplainsNoRank ps issue place empty Memory = Unit {0}
