-- What holds of every order.
use Rattle.std.specs.Prelude.{ℕ, ◌≡◌, ◌≢◌, ◌<◌, List, [], ◌∷◌, ◌++◌, insert, true, Option, Some, None, IfSome, length, All, AllPairs, Ok, Err, IfOk, MatchResult}
use Rattle.field_values.specs.declared.numbers.IssueNo.{IssueNo}
use Rattle.rank_strings.specs.Rank.{RankParts, IsRank, IsBelow}
use Rattle.rank_strings.specs.declared.fault.RankFault.TheVariants.{Exhausted}
use Rattle.board.specs.declared.place.Place.{Place}
use Rattle.board.specs.Order.{Pair, IsOrder, IsIn, IsFreeFor, without, put_in}
use Rattle.board.specs.Place.{gap, stands_at, rank_above, AreNamed, IsRankFor, ExplainsNoRank}
use Rattle.board.specs.Issues.{issues_in, issues_moved, HaveSamePlaces}
use Rattle.board.specs.Moved.{rank_given, moved}
use Rattle.board.specs.Board.{AreRows, board_rows}

-- the issue whose rank is asked for: one that stands in the order, or a new one
abbrev pub IsAskedFor : List Pair → Option IssueNo → IssueNo → Type 0
IsAskedFor ps None issue = ¬ IsIn ps issue.0
IsAskedFor ps (Some i) issue = i ≡ issue

-- the rank that is given for a place puts the issue just there
pub record PutsThere (ps : List Pair) (issue : IssueNo) (asked : Option IssueNo) (place : Place)
    (rank : RankParts) : Type 0 where
  pub free : IsFreeFor ps issue.0 rank
  pub there : put_in (rank, issue) (without issue.0 ps)
      ≡ insert (without issue.0 ps) (gap ps asked place) (rank, issue)
  pub stays : stands_at ps asked place ≡ true → put_in (rank, issue) (without issue.0 ps) ≡ ps
  pub in_order : IsOrder (put_in (rank, issue) (without issue.0 ps))

-- no other issue has the rank that is given for a place, and with it the issue's pair stands between the others just there, which
-- stay as they are; where the issue stands there already, nothing changes
abbrev pub RanksPutThere : Type 0
RanksPutThere =
    (ps : List Pair) (issue : IssueNo) (asked : Option IssueNo) (place : Place) (empty : ℕ)
    (rank : RankParts) →
    IsOrder ps → IsRank rank → AreNamed ps asked place → IsAskedFor ps asked issue
    → IsRankFor ps asked place empty rank →
    PutsThere ps issue asked place rank

-- a rank that no other issue has keeps the order
abbrev pub OrderIsKept : Type 0
OrderIsKept =
    (ps : List Pair) (issue : IssueNo) (rank : RankParts) → IsOrder ps → IsRank rank
    → IsFreeFor ps issue.0 rank →
    IsOrder (put_in (rank, issue) (without issue.0 ps))

-- the rank for a place is computed, or the neighbours between which there is none
abbrev pub RankIsComputed : Type 0
RankIsComputed =
    (ps : List Pair) (asked : Option IssueNo) (place : Place) (empty : ℕ) → IsOrder ps
    → AreNamed ps asked place → empty < 3 →
    MatchResult (rank_given ps asked place empty)
    (λ rank. IsRank rank × IsRankFor ps asked place empty rank)
    (λ sides. ExplainsNoRank ps asked place empty (Exhausted sides.0 sides.1))

-- there is no other rank for it
abbrev pub NoOtherRankIsGiven : Type 0
NoOtherRankIsGiven =
    (ps : List Pair) (asked : Option IssueNo) (place : Place) (empty : ℕ) → IsOrder ps
    → AreNamed ps asked place → empty < 3 →
    (rank : RankParts) → IsRankFor ps asked place empty rank
    → rank_given ps asked place empty ≡ Ok rank

-- where there is none, the neighbours are these
abbrev pub RefusalIsComputed : Type 0
RefusalIsComputed =
    (ps : List Pair) (asked : Option IssueNo) (place : Place) (empty : ℕ) → IsOrder ps
    → AreNamed ps asked place → empty < 3 →
    (low high : Option RankParts) → ExplainsNoRank ps asked place empty (Exhausted low high) →
    rank_given ps asked place empty ≡ Err (low, high)

-- an order after a move, whose issues are those before it with the one that moves taken out and put in at the place
abbrev pub MovesKeepTheOrder : Type 0
MovesKeepTheOrder =
    (ps : List Pair) (asked : Option IssueNo) (issue : IssueNo) (place : Place) (empty : ℕ) →
    IsOrder ps → AreNamed ps asked place → IsAskedFor ps asked issue → empty < 3 →
    IfOk (moved ps asked issue place empty)
    (λ qs. IsOrder qs × (issues_in qs ≡ issues_moved issue place (issues_in ps)))

-- so are the issues after a rank given for the place is put
abbrev pub IssuesAreMoved : Type 0
IssuesAreMoved =
    (ps : List Pair) (issue : IssueNo) (asked : Option IssueNo) (place : Place) (empty : ℕ)
    (rank : RankParts) →
    IsOrder ps → IsRank rank → AreNamed ps asked place → IsAskedFor ps asked issue
    → IsRankFor ps asked place empty rank →
    issues_in (put_in (rank, issue) (without issue.0 ps)) ≡ issues_moved issue place (issues_in ps)

-- places go by the list of issues alone
abbrev pub PlacesGoByIssues : Type 0
PlacesGoByIssues = (ps qs : List Pair) → issues_in ps ≡ issues_in qs → HaveSamePlaces ps qs

-- the rows of members that differ are the issues of the order that are members
abbrev pub RowsAreTheMembers : Type 0
RowsAreTheMembers =
    (ps : List Pair) (members rows : List IssueNo) → IsOrder ps
    → AllPairs (λ m n. m.0 ≢ n.0) members →
    AreRows ps members rows → rows ≡ board_rows ps members

-- a rank above all is free for a new issue, whose pair goes behind all others
abbrev pub GoesBehindAll : List Pair → IssueNo → RankParts → Type 0
GoesBehindAll ps issue rank =
    IsFreeFor ps issue.0 rank
    × (put_in (rank, issue) (without issue.0 ps) ≡ ps ++ (rank, issue) ∷ [])

abbrev pub RankAboveAllGoesLast : Type 0
RankAboveAllGoesLast =
    (ps : List Pair) (issue : IssueNo) (rank : RankParts) → IsOrder ps → ¬ IsIn ps issue.0
    → All (λ p. IsBelow p.0 rank) ps →
    GoesBehindAll ps issue rank

-- a rank above the last one is above all
abbrev pub RankAboveTheLastGoesLast : Type 0
RankAboveTheLastGoesLast =
    (ps : List Pair) (issue : IssueNo) (rank : RankParts) → IsOrder ps → ¬ IsIn ps issue.0 →
    IfSome (rank_above ps (length ps)) (λ last. IsBelow last rank) → GoesBehindAll ps issue rank
