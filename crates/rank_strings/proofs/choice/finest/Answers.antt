use Rattle.rank_strings.proofs.Finest.{chosen_in_gap}
use Rattle.rank_strings.proofs.choice.finest.Goals as goal

pub of_digits-requires : goal.of_digits-requires
of_digits-requires c =
    rw (c.front_of.ensures.value, c.in_ok-further.ensures, c.further_of.ensures.value)
    ((chosen_in_gap _ _ c.args.bucket c.args.gap.depth c.args.gap.digit c.requires.ranks c.requires.none c.requires.gap).between.is_rank)

pub returns : goal.returns
returns c =
    rw (c.of_digits.ensures, c.front_of.ensures.value, c.in_ok-further.ensures, c.further_of.ensures.value)
    (chosen_in_gap _ _ c.args.bucket c.args.gap.depth c.args.gap.digit c.requires.ranks c.requires.none c.requires.gap)
