-- Worked values, computed from the definitions.
use Rattle.std.specs.Prelude.{ℕ, ◌≡◌, List, [], ◌∷◌, Some, None, Ok, refl}
use Rattle.field_values.specs.declared.numbers.IssueNo.{IssueNo}
use Rattle.rank_strings.specs.Rank.{RankParts}
use Rattle.rank_strings.specs.Choice.{chosen_between}
use Rattle.board.specs.declared.place.Place.TheVariants.{Before, Last}
use Rattle.board.specs.Order.{Pair}
use Rattle.board.specs.Moved.{rank_given}
use Rattle.rank_balancer.specs.declared.balance.Balance.TheVariants.{Idle, Moving}
use Rattle.rank_balancer.specs.Step.{after_move}
use Rattle.tracker_ranks.specs.Ranked.{rank_for, with_last, balance_moved}

abbrev issue : ℕ → IssueNo
issue n = record { 0 = n }

-- `i00000`, `i006bk` and `hzztog` in a bucket
abbrev first : ℕ → RankParts
first bucket = record { bucket = bucket; front = 18 ∷ 0 ∷ 0 ∷ 0 ∷ 0 ∷ 0 ∷ []; further = [] }

abbrev second : ℕ → RankParts
second bucket = record { bucket = bucket; front = 18 ∷ 0 ∷ 0 ∷ 6 ∷ 11 ∷ 20 ∷ []; further = [] }

abbrev ahead : ℕ → RankParts
ahead bucket = record { bucket = bucket; front = 17 ∷ 35 ∷ 35 ∷ 29 ∷ 24 ∷ 16 ∷ []; further = [] }

-- the first issue of all goes to the bucket that the balance goes to
pub first_of_a_moving_balance : rank_for [] (Moving 1 2) None Last ≡ Ok (first 2)
unfolding rank_given chosen_between
first_of_a_moving_balance = refl

-- the next one goes behind it
pub next_one : rank_for (with_last [] (issue 1) (first 0)) (Idle 0) None Last ≡ Ok (second 0)
unfolding rank_given chosen_between
next_one = refl

abbrev two : List Pair
two = (first 0, issue 1) ∷ (second 0, issue 2) ∷ []

-- and before the first one it gets another rank, and the first one keeps its own
pub rank_ahead : rank_for two (Idle 0) (Some (issue 2)) (Before (issue 1)) ≡ Ok (ahead 0)
unfolding rank_given chosen_between
rank_ahead = refl

pub moved_ahead : after_move two (issue 2, ahead 0) ≡ (ahead 0, issue 2) ∷ (first 0, issue 1) ∷ []
moved_ahead = refl

-- a step that moves the last rank of the old bucket brings the balance to rest
pub comes_to_rest : balance_moved ((first 0, issue 1) ∷ []) (Moving 0 1) ((issue 1, first 1) ∷ [])
    ≡ Idle 1
comes_to_rest = refl
