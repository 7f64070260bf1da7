-- The rank for a place and the order after a move, computed; where no rank lies between, the neighbours that decide.
use Rattle.std.specs.Prelude.{ℕ, ◌≡◌, List, Option, Some, None, Result, Ok, Err, if◌then◌else◌}
use Rattle.field_values.specs.declared.numbers.IssueNo.{IssueNo}
use Rattle.rank_strings.specs.Rank.{RankParts}
use Rattle.rank_strings.specs.Choice.{chosen_between}
use Rattle.rank_strings.specs.declared.fault.RankFault.{RankFault}
use Rattle.rank_strings.specs.declared.fault.RankFault.TheVariants.{Exhausted, Memory}
use Rattle.board.specs.declared.place.Place.{Place}
use Rattle.board.specs.Order.{Pair, rank_in, without, put_in}
use Rattle.board.specs.Place.{others, gap, stands_at, rank_above, rank_below, bucket_beside, if_in}

-- the two sides between which there is no room
abbrev pub Sides : Type 0
Sides = Option RankParts × Option RankParts

abbrev pub or_sides : Sides → Option RankParts → Result RankParts Sides
or_sides sides None = Err sides
or_sides sides (Some rank) = Ok rank

-- the rank that is chosen in a bucket between the neighbours that are in it
abbrev pub rank_in_bucket : ℕ → Option RankParts → Option RankParts → Result RankParts Sides
rank_in_bucket bucket low high =
    or_sides (if_in bucket low, if_in bucket high)
    (chosen_between (if_in bucket low) (if_in bucket high) bucket)

abbrev pub rank_beside : Option RankParts → Option RankParts → ℕ → Result RankParts Sides
rank_beside low high empty = rank_in_bucket (bucket_beside low high empty) low high

-- the rank that the issue has
abbrev pub own_rank : List Pair → Option IssueNo → Option RankParts
own_rank ps None = None
own_rank ps (Some issue) = rank_in ps issue.0

-- the rank that puts the issue to the place: its own where it stands there, and else the one that is chosen between the others
-- beside it
unfoldable pub rank_given : List Pair → Option IssueNo → Place → ℕ → Result RankParts Sides
rank_given ps asked place empty =
    if stands_at ps asked place then or_sides (None, None) (own_rank ps asked)
    else rank_beside (rank_above (others ps asked) (gap ps asked place))
    (rank_below (others ps asked) (gap ps asked place)) empty

abbrev pub with_rank : List Pair → IssueNo → Result RankParts Sides → Result (List Pair) Sides
with_rank ps issue (Ok rank) = Ok (put_in (rank, issue) (without issue.0 ps))
with_rank ps issue (Err sides) = Err sides

-- the order with the issue at the place
abbrev pub moved : List Pair → Option IssueNo → IssueNo → Place → ℕ → Result (List Pair) Sides
moved ps asked issue place empty = with_rank ps issue (rank_given ps asked place empty)

-- a refusal has the sides that are computed; want of memory says nothing
abbrev pub IsRefusalOf : {T : Type 0} → Result T Sides → RankFault → Type 0
IsRefusalOf computed (Exhausted low high) = computed ≡ Err (low, high)
IsRefusalOf computed Memory = Unit {0}
