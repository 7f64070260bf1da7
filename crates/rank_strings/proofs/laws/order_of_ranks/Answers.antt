use Rattle.rank_strings.specs.Total.{rank_cmp-total}
use Rattle.rank_strings.proofs.Order.{slice_cmp-rank_text}
use Rattle.rank_strings.proofs.Reading.{same_from_equal}
use Rattle.rank_strings.proofs.laws.order_of_ranks.Goals as goal

pub returns-clause-total : goal.returns-clause-total
returns-clause-total c = rank_cmp-total

pub returns-clause-equal : goal.returns-clause-equal
returns-clause-equal c = same_from_equal

pub returns-clause-texts : goal.returns-clause-texts
returns-clause-texts c = slice_cmp-rank_text
