-- What holds of all ranked issues.
use Rattle.std.specs.Prelude.{ℕ, ◌≡◌, ◌≢◌, ◌<◌, ◌+◌, slice_get, List, [], ◌∷◌, ◌++◌, length, true, Option, Some, Ok, IfSome}
use Rattle.field_values.specs.declared.numbers.IssueNo.{IssueNo}
use Rattle.rank_strings.specs.Rank.{RankParts}
use Rattle.board.specs.declared.place.Place.{Place}
use Rattle.board.specs.Order.{Pair, IsOrder, rank_in}
use Rattle.board.specs.Place.{stands_at, AreNamed}
use Rattle.board.specs.Issues.{issues_in, issues_moved}
use Rattle.rank_balancer.specs.declared.balance.Balance.{Balance}
use Rattle.rank_balancer.specs.declared.balance.Balance.TheVariants.{Idle}
use Rattle.rank_balancer.specs.Balance.{IsMoving, after_start, from_of, to_of}
use Rattle.rank_balancer.specs.Step.{Move, after_move, after_moves, ArePicks}
use Rattle.rank_balancer.specs.Planned.{planned}
use Rattle.tracker_ranks.specs.Loaded.{AreLoaded}
use Rattle.tracker_ranks.specs.Ranked.{OrderedIssues, IsRanked, AreNumbered, IsNext, rank_for, with_last, balance_moved}

-- where there is no issue, all are ranked, and the balance may be at rest in any bucket
abbrev pub NoIssueIsRanked : Type 0
NoIssueIsRanked = (bucket : ℕ) → bucket < 3 → IsRanked [] (Idle bucket)

-- the new issue stands behind all others, which is where its rank puts it
pub record GoesLast (ps : List Pair) (b : Balance) (issue : IssueNo)
    (rank : RankParts) : Type 0 where
  pub there : after_move ps (issue, rank) ≡ with_last ps issue rank
  pub issues : issues_in (with_last ps issue rank) ≡ issues_in ps ++ issue ∷ []
  pub ranked : IsRanked (with_last ps issue rank) b

abbrev pub NewIssuesGoLast : Type 0
NewIssuesGoLast =
    (ps : List Pair) (b : Balance) (issue : IssueNo) (rank : RankParts) → IsRanked ps b
    → IsNext ps b issue rank →
    GoesLast ps b issue rank

-- a rank that is given to an issue is its own, and all others keep theirs
pub record GivesOneRank (ps : List Pair) (m : Move) : Type 0 where
  pub own : rank_in (after_move ps m) m.0.0 ≡ Some m.1
  pub others : (other : ℕ) → m.0.0 ≢ other → rank_in (after_move ps m) other ≡ rank_in ps other

abbrev pub EachMoveGivesOneRank : Type 0
EachMoveGivesOneRank = (ps : List Pair) (m : Move) → GivesOneRank ps m

-- the issue is taken out of the list of issues and put in again at the place, and no other rank changes; where it stands there,
-- nothing does
pub record MovesAlone (ps : List Pair) (b : Balance) (issue : IssueNo) (place : Place)
    (rank : RankParts) : Type 0 where
  pub issues : issues_in (after_move ps (issue, rank)) ≡ issues_moved issue place (issues_in ps)
  pub ranks : GivesOneRank ps (issue, rank)
  pub stays : stands_at ps (Some issue) place ≡ true → after_move ps (issue, rank) ≡ ps
  pub ranked : IsRanked (after_move ps (issue, rank)) b

abbrev pub MovesChangeOneRank : Type 0
MovesChangeOneRank =
    (ps : List Pair) (b : Balance) (issue : IssueNo) (place : Place) (rank : RankParts)
    → IsRanked ps b →
    AreNumbered (length ps) (Some issue) place → rank_for ps b (Some issue) place ≡ Ok rank →
    MovesAlone ps b issue place rank

-- two issues have two ranks
abbrev pub RanksDiffer : Type 0
RanksDiffer =
    (ps : List Pair) (one other : ℕ) (rank : RankParts) → IsOrder ps → one ≢ other
    → rank_in ps one ≡ Some rank →
    rank_in ps other ≢ Some rank

-- a start leaves the order as it is, which agrees with the balance after it
abbrev pub StartsKeepRanks : Type 0
StartsKeepRanks =
    (ps : List Pair) (b : Balance) → IsRanked ps b → IfSome (after_start b) (IsRanked ps)

-- a step leaves the list of issues as it is, and the ranks agree with the balance after it
pub record StepKeeps (ps : List Pair) (b : Balance) (moves : List Move) : Type 0 where
  pub issues : issues_in (after_moves ps moves) ≡ issues_in ps
  pub ranked : IsRanked (after_moves ps moves) (balance_moved ps b moves)

abbrev pub StepsKeepRanks : Type 0
StepsKeepRanks =
    (ps : List Pair) (b : Balance) (moves : List Move) → IsRanked ps b → IsMoving b →
    ArePicks ps (from_of b) (to_of b) moves → StepKeeps ps b moves

-- the moves that are computed are picks
abbrev pub PlansArePicks : Type 0
PlansArePicks =
    (ps : List Pair) (b : Balance) (most : ℕ) (moves : List Move) → IsRanked ps b → IsMoving b →
    planned ps (from_of b) (to_of b) most ≡ Ok moves → ArePicks ps (from_of b) (to_of b) moves

-- issues of these numbers stand in the order
abbrev pub NumbersAreRanked : Type 0
NumbersAreRanked =
    (ps : List Pair) (b : Balance) (asked : Option IssueNo) (place : Place) → IsRanked ps b →
    AreNumbered (length ps) asked place → AreNamed ps asked place

-- the ranks of the issues make one order
abbrev pub RanksMakeOneOrder : Type 0
RanksMakeOneOrder =
    (ps qs : List Pair) → IsOrder ps → IsOrder qs
    → ((issue : ℕ) → rank_in ps issue ≡ rank_in qs issue) → ps ≡ qs

-- after loading, each issue has the rank of its number, and there is no other issue
abbrev pub LoadedRanksAreThose : Type 0
LoadedRanksAreThose =
    (ranks : List RankParts) (b : Balance) (loaded : OrderedIssues)
    → IsRanked loaded.order loaded.balance →
    AreLoaded ranks b loaded → (n : ℕ) → rank_in loaded.order (n + 1) ≡ slice_get ranks n
