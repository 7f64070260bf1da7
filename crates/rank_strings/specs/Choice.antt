-- The chosen rank, computed from the neighbours.
use Rattle.std.specs.Prelude.{ℕ, zero, suc, ◌+◌, ◌/◌, ◌%◌, List, [], ◌∷◌, drop, slice_index, Option, Some, None, option_map, nat_le, if◌then◌else◌}
use Rattle.rank_strings.specs.Rank.{RankParts}
use Rattle.rank_strings.specs.Chosen.{least_above, greatest_below, spaced_number, front_of, further_of}
use Rattle.rank_strings.specs.Gap.{lowest_at, highest_at}

-- a number as six digits
abbrev pub six_digits : ℕ → List ℕ
six_digits n =
    n / 36 / 36 / 36 / 36 / 36 ∷ n / 36 / 36 / 36 / 36 % 36 ∷ n / 36 / 36 / 36 % 36
    ∷ n / 36 / 36 % 36 ∷ n / 36 % 36 ∷ n % 36 ∷ []

-- further digits, so many at most: where a digit fits at once it is the one halfway, and else the low neighbour's digit, or 0
-- behind its end, is followed by what fits behind it
unfoldable pub further_between : ℕ → List ℕ → List ℕ → Option (List ℕ)
further_between zero low high = None
further_between (suc room) low high =
    if nat_le (lowest_at low 0) (highest_at high 0)
    then Some ((lowest_at low 0 + highest_at high 0) / 2 ∷ [])
    else option_map (λ (ds : List ℕ). slice_index low 0 ∷ ds)
    (further_between room (drop 1 low) (drop 1 high))

-- a rank of six digits alone, by their number
abbrev pub rank_alone : ℕ → ℕ → RankParts
rank_alone bucket n = record { bucket = bucket; front = six_digits n; further = [] }

-- a rank with these digits behind the six that are named
abbrev pub rank_behind : Option RankParts → ℕ → List ℕ → RankParts
rank_behind low bucket ds = record { bucket = bucket; front = front_of low; further = ds }

-- six digits alone where those lie between, further digits behind the named six where they don't, and none where no rank does
unfoldable pub chosen_between : Option RankParts → Option RankParts → ℕ → Option RankParts
chosen_between low high bucket =
    if nat_le (least_above low) (greatest_below high)
    then Some (rank_alone bucket (spaced_number low high))
    else option_map (rank_behind low bucket)
    (further_between 245 (further_of low) (further_of high))
