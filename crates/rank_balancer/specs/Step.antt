-- A step: some picks, one after the other.
use Rattle.std.specs.Prelude.{ℕ, ◌≡◌, ◌<◌, ◌==◌, min, List, [], ◌∷◌, length, count_by, Option, Some, if◌then◌else◌}
use Rattle.field_values.specs.declared.numbers.IssueNo.{IssueNo}
use Rattle.rank_strings.specs.Rank.{RankParts}
use Rattle.rank_strings.specs.declared.fault.RankFault.{RankFault}
use Rattle.rank_strings.specs.declared.fault.RankFault.TheVariants.{Exhausted, Memory}
use Rattle.rank_balancer.specs.declared.balance.Balance.{Balance}
use Rattle.rank_balancer.specs.declared.balance.Balance.TheVariants.{Idle, Moving}
use Rattle.board.specs.Order.{Pair, without, put_in}
use Rattle.rank_balancer.specs.Pick.{pick_of, neighbour_in, IsNextRank, ExplainsNoNext}

-- a move gives an issue a new rank
abbrev pub Move : Type 0
Move = IssueNo × RankParts

abbrev pub after_move : List Pair → Move → List Pair
after_move ps m = put_in (m.1, m.0) (without m.0.0 ps)

abbrev pub after_moves : List Pair → List Move → List Pair
after_moves ps [] = ps
after_moves ps (m ∷ ms) = after_moves (after_move ps m) ms

-- each move is the pick of the order that the moves before it have left
abbrev pub ArePicks : List Pair → ℕ → ℕ → List Move → Type 0
ArePicks ps from to [] = Unit {0}
ArePicks ps from to (m ∷ ms) =
    (pick_of ps (Moving from to) ≡ Some m.0) × IsNextRank to (neighbour_in to ps) m.1
    × ArePicks (after_move ps m) from to ms

-- how many ranks are left in a bucket
abbrev pub left_in : ℕ → List Pair → ℕ
left_in bucket ps = count_by (λ p. p.0.bucket == bucket) ps

-- how many are left in the bucket that a balance leaves; none where it is idle
abbrev pub ranks_left : List Pair → Balance → ℕ
ranks_left ps (Idle bucket) = 0
ranks_left ps (Moving from to) = left_in from ps

-- a step of so many picks at most
pub record IsStep (ps : List Pair) (from to most : ℕ) (moves : List Move) : Type 0 where
  pub picks : ArePicks ps from to moves
  pub count : length moves ≡ min most (left_in from ps)

-- the balance is idle where no rank is left
abbrev pub balance_after : List Pair → ℕ → ℕ → Balance
balance_after ps from to = if left_in from ps == 0 then Idle to else Moving from to

-- a pick of the step for which there is no rank, after some for which there was
pub record IsStuck (ps : List Pair) (from to most : ℕ) (low high : Option RankParts) : Type 0 where
  pub done : List Move
  pub picks : ArePicks ps from to done
  pub more : length done < min most (left_in from ps)
  pub no_rank : ExplainsNoNext to (neighbour_in to (after_moves ps done)) (Exhausted low high)

-- a step is refused where one of its picks has no room; want of memory says nothing
abbrev pub ExplainsRefusal : List Pair → ℕ → ℕ → ℕ → RankFault → Type 0
ExplainsRefusal ps from to most (Exhausted low high) = IsStuck ps from to most low high
ExplainsRefusal ps from to most Memory = Unit {0}

-- the rank of the last move, and where there is none this one
abbrev pub neighbour_after : List Move → Option RankParts → Option RankParts
neighbour_after [] first = first
neighbour_after (m ∷ ms) first = neighbour_after ms (Some m.1)
