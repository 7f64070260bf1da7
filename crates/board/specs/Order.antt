-- The order of issues: pairs of a rank and an issue, the least rank first.
use Rattle.std.specs.Prelude.{ℕ, suc, zero, ◌≢◌, ◌+◌, ◌<◌, ◌≤◌, ◌==◌, List, [], ◌∷◌, length, max, nat_lt, slice_get, option_map, AllPairs, All, Option, Some, None, if◌then◌else◌}
use Rattle.std.specs.Ordering.{is_lt}
use Rattle.field_values.specs.declared.numbers.IssueNo.{IssueNo}
use Rattle.rank_strings.specs.Rank.{RankParts, IsRank, IsBelow, rank_cmp}
use Rattle.rank_strings.specs.Text.{rank_text}

abbrev pub Pair : Type 0
Pair = RankParts × IssueNo

-- the order, and the greatest number of issues, and of an issue, for which there is room
pub record Ranking : Type 0 where
  pub pairs : List (RankParts × IssueNo)
  pub room : ℕ

-- each rank is less than those behind it, and each issue stands once
pub record IsOrder (ps : List Pair) : Type 0 where
  pub ranks : All (λ p. IsRank p.0) ps
  pub rising : AllPairs (λ p q. IsBelow p.0 q.0) ps
  pub once : AllPairs (λ p q. p.1.0 ≢ q.1.0) ps

-- how many pairs stand before the issue's; all of them where it has none
abbrev pub places_before : List Pair → ℕ → ℕ
places_before [] issue = 0
places_before (p ∷ ps) issue = if p.1.0 == issue then 0 else suc (places_before ps issue)

-- the issue stands in the order
abbrev pub IsIn : List Pair → ℕ → Type 0
IsIn ps issue = places_before ps issue < length ps

-- its place from 0, and none where it doesn't stand there
abbrev pub place_in : List Pair → ℕ → Option ℕ
place_in ps issue =
    if nat_lt (places_before ps issue) (length ps) then Some (places_before ps issue) else None

-- its rank, and none where it doesn't stand there
abbrev pub rank_in : List Pair → ℕ → Option RankParts
rank_in ps issue = option_map (λ p. p.0) (slice_get ps (places_before ps issue))

-- the pair before a place
abbrev pub pair_before : List Pair → ℕ → Option Pair
pair_before ps zero = None
pair_before ps (suc place) = slice_get ps place

-- the issues before and behind a place; none where there is no place
abbrev pub beside : List Pair → Option ℕ → Option IssueNo × Option IssueNo
beside ps None = (None, None)
beside ps (Some place) =
    (option_map (λ p. p.1) (pair_before ps place), option_map (λ p. p.1) (slice_get ps (place + 1)))

-- all pairs but the issue's
abbrev pub without : ℕ → List Pair → List Pair
without issue [] = []
without issue (p ∷ ps) = if p.1.0 == issue then without issue ps else p ∷ without issue ps

-- a pair put in before the first one whose rank is greater; all others stand
abbrev pub put_in : Pair → List Pair → List Pair
put_in x [] = x ∷ []
put_in x (p ∷ ps) = if is_lt (rank_cmp x.0 p.0) then x ∷ p ∷ ps else p ∷ put_in x ps

-- no other issue has the rank
abbrev pub IsFreeFor : List Pair → ℕ → RankParts → Type 0
IsFreeFor ps issue rank = All (λ p. p.0 ≢ rank) (without issue ps)

-- there is room for one more issue, and for one of this number
pub record HasRoomFor (order : Ranking) (issue : ℕ) : Type 0 where
  pub count : length order.pairs < order.room
  pub number : issue ≤ order.room

-- bytes of the longest rank, 0 where there is none
abbrev pub longest_in : List Pair → ℕ
longest_in [] = 0
longest_in (p ∷ ps) = max (length (rank_text p.0)) (longest_in ps)
