use Rattle.board.proofs.Last.{rank_above_all_goes_last, rank_above_the_last_goes_last}
use Rattle.board.proofs.laws.ranks_that_rise.Goals as goal

pub returns-clause-all : goal.returns-clause-all
returns-clause-all c = rank_above_all_goes_last

pub returns-clause-last : goal.returns-clause-last
returns-clause-last c = rank_above_the_last_goes_last
