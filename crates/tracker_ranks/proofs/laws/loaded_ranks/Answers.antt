use Rattle.tracker_ranks.proofs.OneOrder.{ranks_make_one_order, loaded_ranks_are_those}
use Rattle.tracker_ranks.proofs.laws.loaded_ranks.Goals as goal

pub returns-clause-one : goal.returns-clause-one
returns-clause-one c = ranks_make_one_order

pub returns-clause-those : goal.returns-clause-those
returns-clause-those c = loaded_ranks_are_those
