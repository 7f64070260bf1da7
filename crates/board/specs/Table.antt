-- What is kept: the issues in order, and by each issue's number its rank.
use Rattle.std.specs.Prelude.{ℕ, zero, suc, slice_get, ◌≡◌, ◌≢◌, ◌<◌, ◌≤◌, List, [], Option, Some, None, ◌+◌, length, map, slice_index_or}
use Rattle.field_values.specs.declared.numbers.IssueNo.{IssueNo}
use Rattle.rank_strings.specs.Rank.{RankParts}
use Rattle.board.specs.Order.{Pair, IsOrder, rank_in, places_before}
use Rattle.board.specs.Lengths.{AreCountsOf}

-- the pair at a place, and this one behind the end
abbrev pub nothing : Pair
nothing = (record { bucket = 0; front = []; further = [] }, record { 0 = 0 })

-- the number of the issue at a place
abbrev pub number_at : List Pair → ℕ → ℕ
number_at ps place = let p = slice_index_or ps place nothing in p.1.0

-- a rank that is there, and that of nothing where there is none
abbrev pub rank_or_nothing : Option RankParts → RankParts
rank_or_nothing None = nothing.0
rank_or_nothing (Some rank) = rank

-- an issue beside its rank
abbrev pub pair_by : List (Option RankParts) → IssueNo → Pair
pair_by ranks issue = (rank_or_nothing (slice_index_or ranks issue.0 None), issue)

abbrev pub pairs_by : List (Option RankParts) → List IssueNo → List Pair
pairs_by ranks issues = map (pair_by ranks) issues

-- the issue before a place of a list
abbrev pub issue_before : List IssueNo → ℕ → Option IssueNo
issue_before issues zero = None
issue_before issues (suc place) = slice_get issues place

-- by each number the table has the issue's rank, and none where it doesn't stand in the order
abbrev pub IsTableOf : List Pair → List (Option RankParts) → Type 0
IsTableOf ps ranks = (issue : ℕ) → slice_index_or ranks issue None ≡ rank_in ps issue

-- by each number a table has the issue's place, and the end of the order where it doesn't stand there
abbrev pub ArePlacesIn : List Pair → List ℕ → Type 0
ArePlacesIn ps places = (issue : ℕ) → slice_index_or places issue (length ps) ≡ places_before ps issue

-- the places of the first issues of a list, each by its number; all else is as before
pub record ArePlacesTo (issues : List IssueNo) (to : ℕ) (old new : List ℕ) : Type 0 where
  pub inside : (k d : ℕ) → k < to
      → slice_index_or new (let i = slice_index_or issues k nothing.1 in i.0) d ≡ k
  pub others : (number d : ℕ)
      → ((k : ℕ) → k < to → (let i = slice_index_or issues k nothing.1 in i.0) ≢ number)
      → slice_index_or new number d ≡ slice_index_or old number d

-- what is kept of an order: the issues, their ranks, the counts of ranks by length, and room for an issue by each number of the table
pub record IsKept (issues : List IssueNo) (ranks : List (Option RankParts)) (counts : List ℕ)
    (slots : ℕ) : Type 0 where
  pub order : IsOrder (pairs_by ranks issues)
  pub table : IsTableOf (pairs_by ranks issues) ranks
  pub counted : AreCountsOf (pairs_by ranks issues) counts
  pub all_lengths : 0 < length ranks → 255 ≤ length counts
  pub enough : length ranks ≤ slots + 1
