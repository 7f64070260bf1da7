-- Ranks: the refusal where none is left for a place, and what comes of one that is given.
use Rattle.std.specs.Prelude.{Bool, false, List, Some, None, Result, Ok, Err, option_map}
use Rattle.std.specs.Option.{option_map_or}
use Rattle.std.specs.Ordering.{eq_by_cmp}
use Rattle.field_values.specs.declared.numbers.IssueNo.{IssueNo}
use Rattle.rank_strings.specs.Rank.{RankParts, rank_cmp}
use Rattle.rank_strings.specs.Text.{rank_text}
use Rattle.board.specs.declared.place.Place.{Place}
use Rattle.board.specs.declared.place.Place.TheVariants.{Last}
use Rattle.board.specs.Order.{Pair, rank_in}
use Rattle.board.specs.Moved.{Sides}
use Rattle.tracker_ranks.specs.Ranked.{rank_for}
use Rattle.tracker_calls.specs.declared.cause.Cause.{Cause}
use Rattle.tracker_calls.specs.declared.cause.Cause.TheVariants as cause
use Rattle.tracker_machine.specs.Machine.{Machine}
use Rattle.tracker_machine.specs.Meaning.{Meaning}
use Rattle.tracker_machine.specs.Meaning.Meaning.{Refuses}

-- no rank is left between these
abbrev pub no_room : Sides → Cause
no_room sides = cause.NoRoom (option_map rank_text sides.0) (option_map rank_text sides.1)

-- what comes of a rank that is given; where none is left, the call is refused
abbrev pub with_given : Result RankParts Sides → (RankParts → Meaning) → Meaning
with_given (Ok rank) due = due rank
with_given (Err sides) due = Refuses (no_room sides)

-- the rank of a new issue, which goes behind all others
abbrev pub last_rank : Machine → Result RankParts Sides
last_rank m = rank_for m.order m.balance None Last

-- the rank that puts an issue to a place
abbrev pub moved_rank : Machine → IssueNo → Place → Result RankParts Sides
moved_rank m issue place = rank_for m.order m.balance (Some issue) place

-- the issue has this rank already
abbrev pub has_rank : List Pair → IssueNo → RankParts → Bool
has_rank order issue rank =
    option_map_or (λ own. eq_by_cmp rank_cmp own rank) (rank_in order issue.0) false
