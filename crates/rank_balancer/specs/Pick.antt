-- Which issue is picked, and which rank it gets.
use Rattle.std.specs.Prelude.{ℕ, ◌≡◌, ◌==◌, List, [], ◌∷◌, Option, Some, None, option_map, if◌then◌else◌}
use Rattle.field_values.specs.declared.numbers.IssueNo.{IssueNo}
use Rattle.rank_strings.specs.Rank.{RankParts}
use Rattle.rank_strings.specs.Chosen.{IsChosen}
use Rattle.rank_strings.specs.Between.{HasNoRoom}
use Rattle.rank_strings.specs.declared.fault.RankFault.{RankFault}
use Rattle.rank_strings.specs.declared.fault.RankFault.TheVariants.{Exhausted, Memory}
use Rattle.rank_balancer.specs.declared.balance.Balance.{Balance}
use Rattle.rank_balancer.specs.declared.balance.Balance.TheVariants.{Idle, Moving}
use Rattle.board.specs.Order.{Pair}

-- the first pair of a bucket
abbrev pub first_in : ℕ → List Pair → Option Pair
first_in bucket [] = None
first_in bucket (p ∷ ps) = if p.0.bucket == bucket then Some p else first_in bucket ps

abbrev pub or_else : Option Pair → Option Pair → Option Pair
or_else None other = other
or_else (Some p) other = Some p

-- the last pair of a bucket
abbrev pub last_in : ℕ → List Pair → Option Pair
last_in bucket [] = None
last_in bucket (p ∷ ps) =
    or_else (last_in bucket ps) (if p.0.bucket == bucket then Some p else None)

-- from bucket 2 the first is picked, and else the last
abbrev pub picked_from : ℕ → List Pair → Option Pair
picked_from from ps = if from == 2 then first_in from ps else last_in from ps

-- the issue that is picked, and none where the balance is idle
abbrev pub pick_of : List Pair → Balance → Option IssueNo
pick_of ps (Idle bucket) = None
pick_of ps (Moving from to) = option_map (λ p. p.1) (picked_from from ps)

-- the first ranks of buckets 1 and 2 are `r00000`, and that of bucket 0 is `900000`
abbrev pub first_rank : ℕ → RankParts
first_rank to =
    record {
      bucket = to;
      front = (if to == 0 then 9 else 27) ∷ 0 ∷ 0 ∷ 0 ∷ 0 ∷ 0
          ∷ [];
      further = [];
    }

-- the rank that a picked issue has for its neighbour in the new bucket: on the way up the first one there, and from bucket 2 to 0 the last one
abbrev pub neighbour_in : ℕ → List Pair → Option RankParts
neighbour_in to ps = option_map (λ p. p.0) (if to == 0 then last_in to ps else first_in to ps)

-- the picked issue gets the rank that is chosen before all ranks of the new bucket, and from bucket 2 to 0 that behind them all
abbrev pub IsNextRank : ℕ → Option RankParts → RankParts → Type 0
IsNextRank to None rank = rank ≡ first_rank to
IsNextRank to (Some r) rank =
    IsChosen (if to == 0 then Some r else None) (if to == 0 then None else Some r) to rank

-- no rank is left for it
abbrev pub HasNoNextRank : ℕ → Option RankParts → Type 0
HasNoNextRank to None = ⊥
HasNoNextRank to (Some r) =
    HasNoRoom (if to == 0 then Some r else None) (if to == 0 then None else Some r) to

abbrev pub low_of : ℕ → Option RankParts → Option RankParts
low_of to neighbour = if to == 0 then neighbour else None

abbrev pub high_of : ℕ → Option RankParts → Option RankParts
high_of to neighbour = if to == 0 then None else neighbour

-- a rank is refused where none is left, with the neighbour
abbrev pub ExplainsNoNext : ℕ → Option RankParts → RankFault → Type 0
ExplainsNoNext to neighbour (Exhausted low high) =
    HasNoNextRank to neighbour × (low ≡ low_of to neighbour) × (high ≡ high_of to neighbour)
ExplainsNoNext to neighbour Memory = Unit {0}
