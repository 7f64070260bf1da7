-- What holds of every pick and of every step.
use Rattle.std.specs.Prelude.{ℕ, zero, suc, ◌≡◌, ◌+◌, ◌-◌, ◌/◌, ◌<◌, ◌≤◌, max, List, length, map, All, Option, Some, Ok, Err, IfOk, MatchResult}
use Rattle.rank_strings.specs.Rank.{RankParts}
use Rattle.rank_strings.specs.Text.{rank_text}
use Rattle.rank_balancer.specs.declared.balance.Balance.{Balance}
use Rattle.rank_balancer.specs.declared.balance.Balance.TheVariants.{Idle, Moving}
use Rattle.field_values.specs.declared.numbers.IssueNo.{IssueNo}
use Rattle.tracker_limits.specs.Limits.{most_issues}
use Rattle.board.specs.declared.place.Place.{Place}
use Rattle.board.specs.Order.{Pair, IsOrder, IsIn, IsFreeFor, without, put_in}
use Rattle.board.specs.Place.{AreNamed, IsRankFor}
use Rattle.board.specs.Moved.{moved}
use Rattle.rank_balancer.specs.Balance.{next_bucket, Agrees, IsMoving, from_of, to_of}
use Rattle.rank_balancer.specs.Pick.{pick_of, neighbour_in, IsNextRank}
use Rattle.rank_balancer.specs.Step.{Move, after_move, after_moves, ArePicks, IsStep, IsStuck, left_in, balance_after}
use Rattle.rank_balancer.specs.Planned.{planned}

-- a pick finds its issue in the order and its rank free, and leaves an order that agrees with the balance, with the same issues at the
-- same places and one rank less in the old bucket
pub record KeepsAll (ps : List Pair) (from to : ℕ) (m : Move) : Type 0 where
  pub there : IsIn ps m.0.0
  pub free : IsFreeFor ps m.0.0 m.1
  pub order : IsOrder (after_move ps m)
  pub agrees : Agrees (after_move ps m) (Moving from to)
  pub issues : map (λ p. p.1) (after_move ps m) ≡ map (λ p. p.1) ps
  pub fewer : left_in from (after_move ps m) + 1 ≡ left_in from ps

abbrev pub OnePickKeepsAll : Type 0
OnePickKeepsAll =
    (ps : List Pair) (from to : ℕ) (m : Move) → IsOrder ps → Agrees ps (Moving from to) →
    pick_of ps (Moving from to) ≡ Some m.0 → IsNextRank to (neighbour_in to ps) m.1
    → KeepsAll ps from to m

-- so do any picks one after the other, and then the balance is idle exactly where none is left
pub record LeavesAll (ps : List Pair) (from to : ℕ) (moves : List Move) : Type 0 where
  pub order : IsOrder (after_moves ps moves)
  pub agrees : Agrees (after_moves ps moves) (balance_after (after_moves ps moves) from to)
  pub issues : map (λ p. p.1) (after_moves ps moves) ≡ map (λ p. p.1) ps
  pub fewer : left_in from (after_moves ps moves) + length moves ≡ left_in from ps

abbrev pub PicksKeepAll : Type 0
PicksKeepAll =
    (ps : List Pair) (from to : ℕ) (moves : List Move) → IsOrder ps → Agrees ps (Moving from to)
    → ArePicks ps from to moves → LeavesAll ps from to moves

-- accepted steps of one count, one after the other; the balance moves before each
abbrev pub StepsLead : ℕ → ℕ → List Pair → Balance → List Pair → Balance → Type 0
StepsLead count zero ps b qs e = (qs ≡ ps) × (e ≡ b)
StepsLead count (suc steps) ps b qs e =
    IsMoving b × ((moves : List Move) × IsStep ps (from_of b) (to_of b) count moves ×
    StepsLead count steps (after_moves ps moves)
    (balance_after (after_moves ps moves) (from_of b) (to_of b)) qs e)

-- how many steps of a count a whole rebalancing takes: as many as the issues fill, rounded up, and at least one
abbrev pub steps_for : ℕ → ℕ → ℕ
steps_for issues count = max 1 ((issues + (count - 1)) / count)

-- where some steps after a start have led
pub record IsOnTheWay (count steps issues bucket : ℕ) (qs : List Pair) (e : Balance) : Type 0 where
  -- no further step is refused for want of room, of whatever count
  pub has_room : (other : ℕ) (low high : Option RankParts) → IsMoving e
      → ¬ IsStuck qs (from_of e) (to_of e) other low high
  -- before the last one the balance moves on
  pub moves_on : steps < steps_for issues count → e ≡ Moving bucket (next_bucket bucket)
  -- with the last one it is idle in the next bucket, and every rank has nine bytes
  pub ends : steps ≡ steps_for issues count
      → (e ≡ Idle (next_bucket bucket)) × All (λ p. length (rank_text p.0) ≡ 9) qs

-- from an idle balance with as many issues as a tracker may hold, steps of one count end the rebalancing after just so many, and none is refused
abbrev pub StepsEnd : Type 0
StepsEnd =
    (ps : List Pair) (bucket count steps : ℕ) (qs : List Pair) (e : Balance) → IsOrder ps
    → Agrees ps (Idle bucket) → length ps ≤ most_issues → 1 ≤ count →
    StepsLead count steps ps (Moving bucket (next_bucket bucket)) qs e
    → IsOnTheWay count steps (length ps) bucket qs e

-- what is computed is a step, or what its refusal names
abbrev pub StepIsComputed : Type 0
StepIsComputed =
    (ps : List Pair) (from to most : ℕ) → IsOrder ps → Agrees ps (Moving from to) →
    MatchResult (planned ps from to most) (IsStep ps from to most)
    (λ sides. IsStuck ps from to most sides.0 sides.1)

-- there is no other step
abbrev pub NoOtherStep : Type 0
NoOtherStep =
    (ps : List Pair) (from to most : ℕ) (moves : List Move) → IsOrder ps
    → Agrees ps (Moving from to) →
    IsStep ps from to most moves → planned ps from to most ≡ Ok moves

-- and no other refusal
abbrev pub NoOtherRefusal : Type 0
NoOtherRefusal =
    (ps : List Pair) (from to most : ℕ) (low high : Option RankParts) → IsOrder ps
    → Agrees ps (Moving from to) →
    IsStuck ps from to most low high → planned ps from to most ≡ Err (low, high)

-- a new issue or a moved one keeps the balance, where the first rank of all goes to the bucket that the balance goes to
abbrev pub PlacesKeepTheBalance : Type 0
PlacesKeepTheBalance =
    (ps : List Pair) (b : Balance) (issue : IssueNo) (asked : Option IssueNo) (place : Place)
    (rank : RankParts) →
    Agrees ps b → AreNamed ps asked place → IsRankFor ps asked place (to_of b) rank
    → Agrees (put_in (rank, issue) (without issue.0 ps)) b

abbrev pub MovesKeepTheBalance : Type 0
MovesKeepTheBalance =
    (ps : List Pair) (b : Balance) (issue : IssueNo) (asked : Option IssueNo) (place : Place) →
    IsOrder ps → Agrees ps b → AreNamed ps asked place
    → IfOk (moved ps asked issue place (to_of b)) (λ qs. Agrees qs b)
