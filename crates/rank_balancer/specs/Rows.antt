-- Worked values, computed from the definitions.
use Rattle.std.specs.Prelude.{ℕ, ◌≡◌, List, [], ◌∷◌, ◌++◌, replicate, Some, None, Ok, Err, refl}
use Rattle.field_values.specs.declared.numbers.IssueNo.{IssueNo}
use Rattle.rank_strings.specs.Rank.{RankParts}
use Rattle.rank_strings.specs.Choice.{chosen_between, further_between}
use Rattle.board.specs.Order.{Pair}
use Rattle.rank_balancer.specs.Step.{left_in}
use Rattle.rank_balancer.specs.Planned.{planned}

abbrev issue : ℕ → IssueNo
issue n = record { 0 = n }

abbrev rank : ℕ → List ℕ → RankParts
rank bucket front = record { bucket = bucket; front = front; further = [] }

-- `i00000`, `i006bk` and `i00cn4` in a bucket
abbrev three : ℕ → List Pair
three bucket =
    (rank bucket (18 ∷ 0 ∷ 0 ∷ 0 ∷ 0 ∷ 0 ∷ []), issue 1)
    ∷ (rank bucket (18 ∷ 0 ∷ 0 ∷ 6 ∷ 11 ∷ 20 ∷ []), issue 2)
    ∷ (rank bucket (18 ∷ 0 ∷ 0 ∷ 12 ∷ 23 ∷ 4 ∷ []), issue 3) ∷ []

-- a step of two from bucket 0: the last one gets `r00000`, and the one before it `qzztog`
pub two_up : planned (three 0) 0 1 2
    ≡ Ok ((issue 3, rank 1 (27 ∷ 0 ∷ 0 ∷ 0 ∷ 0 ∷ 0 ∷ []))
    ∷ (issue 2, rank 1 (26 ∷ 35 ∷ 35 ∷ 29 ∷ 24 ∷ 16 ∷ [])) ∷ [])
unfolding planned chosen_between
two_up = refl

-- and from bucket 2: the first one gets `900000`, and the next one `9006bk`
pub two_down : planned (three 2) 2 0 2
    ≡ Ok ((issue 1, rank 0 (9 ∷ 0 ∷ 0 ∷ 0 ∷ 0 ∷ 0 ∷ []))
    ∷ (issue 2, rank 0 (9 ∷ 0 ∷ 0 ∷ 6 ∷ 11 ∷ 20 ∷ [])) ∷ [])
unfolding planned chosen_between
two_down = refl

-- no more are picked than there are
pub none_there : planned [] 0 1 16 ≡ Ok []
unfolding planned
none_there = refl

-- before the least rank of bucket 1 there is no room
abbrev least : RankParts
least = record { bucket = 1; front = replicate 6 0; further = replicate 244 0 ++ 1 ∷ [] }

pub no_room : planned ((rank 0 (18 ∷ 0 ∷ 0 ∷ 0 ∷ 0 ∷ 0 ∷ []), issue 1) ∷ (least, issue 2) ∷ []) 0 1
    16 ≡ Err (None, Some least)
unfolding planned chosen_between further_between
no_room = refl

pub three_are_left : left_in 0 (three 0) ≡ 3
three_are_left = refl
