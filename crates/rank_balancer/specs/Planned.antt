-- A step, computed: its moves, or the neighbour of a pick that has no room.
use Rattle.std.specs.Prelude.{ℕ, zero, suc, List, [], ◌∷◌, Option, Some, None, Result, Ok, Err}
use Rattle.field_values.specs.declared.numbers.IssueNo.{IssueNo}
use Rattle.rank_strings.specs.Rank.{RankParts}
use Rattle.rank_strings.specs.Choice.{chosen_between}
use Rattle.rank_balancer.specs.declared.balance.Balance.TheVariants.{Moving}
use Rattle.board.specs.Order.{Pair}
use Rattle.board.specs.Moved.{Sides}
use Rattle.rank_balancer.specs.Pick.{pick_of, first_rank, neighbour_in, low_of, high_of}
use Rattle.rank_balancer.specs.Step.{Move, after_move}

-- the rank of the next picked issue, beside the neighbour that it has in the new bucket
abbrev pub next_rank : ℕ → Option RankParts → Option RankParts
next_rank to None = Some (first_rank to)
next_rank to (Some r) = chosen_between (low_of to (Some r)) (high_of to (Some r)) to

abbrev pub next_sides : ℕ → Option RankParts → Sides
next_sides to neighbour = (low_of to neighbour, high_of to neighbour)

abbrev pub behind_move : Move → Result (List Move) Sides → Result (List Move) Sides
behind_move m (Ok ms) = Ok (m ∷ ms)
behind_move m (Err sides) = Err sides

-- a step ends where no issue is picked, and is refused where the picked one has no rank; else the move is followed by those that
-- come after it
abbrev pub from_pick : Sides → Option IssueNo → Option RankParts → (Move → Result (List Move) Sides)
    → Result (List Move) Sides
from_pick sides None rank others = Ok []
from_pick sides (Some issue) None others = Err sides
from_pick sides (Some issue) (Some rank) others = behind_move (issue, rank) (others (issue, rank))

-- the moves of a step of so many picks at most
unfoldable pub planned : List Pair → ℕ → ℕ → ℕ → Result (List Move) Sides
planned ps from to zero = Ok []
planned ps from to (suc count) =
    from_pick (next_sides to (neighbour_in to ps)) (pick_of ps (Moving from to))
    (next_rank to (neighbour_in to ps))
    (λ (m : Move). planned (after_move ps m) from to count)
