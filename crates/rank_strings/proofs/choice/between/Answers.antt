use Rattle.rank_strings.proofs.Finest.{no_room_from_no_gap}
use Rattle.rank_strings.proofs.Computed.{chosen_alone, none_unless_memory}
use Rattle.std.proofs.Common.{◌<◌, arith}
use Rattle.std.specs.Option.{option_copied}
use Rattle.rank_strings.specs.Chosen.{least_above, greatest_below}
use Rattle.rank_strings.proofs.choice.between.Goals as goal

pub exhausted-requires : goal.exhausted-requires
exhausted-requires c =
    let none : greatest_below (option_copied c.args.high) < least_above (option_copied c.args.low) =
    omega (arith, c.least_above.ensures.value, c.greatest_below.ensures.value) in
    no_room_from_no_gap _ _ c.args.bucket
    (record {
      low_rank = c.least_above.ensures.is_rank;
      high_rank = c.greatest_below.ensures.is_rank;
      neighbours = c.requires;
    })
    none
    (rw (c.further_of.ensures.value, c.further_of-2.ensures.value) at c.in-None.ensures)

pub returns-then-least_above-greatest_below-clause-computed : goal.returns-then-least_above-greatest_below-clause-computed
returns-then-least_above-greatest_below-clause-computed c =
    chosen_alone _ _ c.args.bucket
    (record {
      low_rank = c.least_above.ensures.is_rank;
      high_rank = c.greatest_below.ensures.is_rank;
      neighbours = c.requires;
    })
    c.spaced.result c.spaced.ensures

pub returns-in_ok-finest-in-Some-clause-computed : goal.returns-in_ok-finest-in-Some-clause-computed
returns-in_ok-finest-in-Some-clause-computed c =
    chosen_alone _ _ c.args.bucket
    (record {
      low_rank = c.least_above.ensures.is_rank;
      high_rank = c.greatest_below.ensures.is_rank;
      neighbours = c.requires;
    })
    _ c.in_ok-finest-in-Some.ensures

pub returns-in-None-clause-none : goal.returns-in-None-clause-none
returns-in-None-clause-none c =
    none_unless_memory _ _ c.args.bucket
    (record {
      low_rank = c.least_above.ensures.is_rank;
      high_rank = c.greatest_below.ensures.is_rank;
      neighbours = c.requires;
    })
    _ c.exhausted.ensures
