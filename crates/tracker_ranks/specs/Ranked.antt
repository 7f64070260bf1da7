-- All issues of a tracker by rank, and what comes of them by a new issue, a move and a step.
use Rattle.std.specs.Prelude.{ℕ, ◌≡◌, ◌≢◌, ◌≤◌, ◌+◌, ◌↔◌, List, [], ◌∷◌, ◌++◌, length, Option, None, Some, Result, Ok, IfSome}
use Rattle.field_values.specs.declared.numbers.IssueNo.{IssueNo}
use Rattle.rank_strings.specs.Rank.{RankParts}
use Rattle.board.specs.declared.place.Place.{Place}
use Rattle.board.specs.declared.place.Place.TheVariants.{Last}
use Rattle.board.specs.Order.{Pair, IsOrder, IsIn}
use Rattle.board.specs.Place.{named_by}
use Rattle.board.specs.Moved.{Sides, rank_given}
use Rattle.rank_balancer.specs.declared.balance.Balance.{Balance}
use Rattle.rank_balancer.specs.Balance.{Agrees, from_of, to_of}
use Rattle.rank_balancer.specs.Step.{Move, after_moves, balance_after}

-- the order of the issues, the balance of their ranks, and the greatest number of issues for which there is room
pub record OrderedIssues : Type 0 where
  pub order : List (RankParts × IssueNo)
  pub balance : Balance
  pub room : ℕ

-- the number of one of so many issues, which are numbered from 1
abbrev pub IsOneOf : ℕ → ℕ → Type 0
IsOneOf count issue = (1 ≤ issue) × (issue ≤ count)

-- each issue from 1 to their number stands in the order once, and the ranks agree with the balance
pub record IsRanked (ps : List Pair) (b : Balance) : Type 0 where
  pub order : IsOrder ps
  pub numbered : (issue : ℕ) → IsIn ps issue ↔ IsOneOf (length ps) issue
  pub agrees : Agrees ps b

-- the named issues are some of so many, and differ
pub record AreNumbered (count : ℕ) (asked : Option IssueNo) (place : Place) : Type 0 where
  pub issue : IfSome asked (λ i. IsOneOf count i.0)
  pub other : IfSome (named_by place) (λ o. IsOneOf count o.0)
  pub differ : IfSome asked (λ i. IfSome (named_by place) (λ o. i.0 ≢ o.0))

-- the rank that puts an issue to a place, or a new one where none is asked for; of an order without issues it is in the bucket
-- that the balance goes to. Where there is none, the neighbours between which none lies
abbrev pub rank_for : List Pair → Balance → Option IssueNo → Place → Result RankParts Sides
rank_for ps b asked place = rank_given ps asked place (to_of b)

-- the rank puts the issue to some place
pub record IsGiven (ps : List Pair) (b : Balance) (issue : IssueNo)
    (rank : RankParts) : Type 0 where
  pub place : Place
  pub named : AreNumbered (length ps) (Some issue) place
  pub given : rank_for ps b (Some issue) place ≡ Ok rank

-- the issue is the next one, and the rank puts it behind all others
pub record IsNext (ps : List Pair) (b : Balance) (issue : IssueNo) (rank : RankParts) : Type 0 where
  pub number : issue.0 ≡ length ps + 1
  pub given : rank_for ps b None Last ≡ Ok rank

-- the order with a new issue behind all others
abbrev pub with_last : List Pair → IssueNo → RankParts → List Pair
with_last ps issue rank = ps ++ (rank, issue) ∷ []

-- the balance after the moves of a step: it has come to the new bucket where no rank is left in the old one
abbrev pub balance_moved : List Pair → Balance → List Move → Balance
balance_moved ps b moves = balance_after (after_moves ps moves) (from_of b) (to_of b)
