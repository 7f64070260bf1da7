use Rattle.rank_balancer.proofs.Keeps.{one_pick_keeps_all, picks_keep_all}
use Rattle.rank_balancer.proofs.laws.picks_keep_the_order.Goals as goal

pub returns-clause-one : goal.returns-clause-one
returns-clause-one c = one_pick_keeps_all

pub returns-clause-all : goal.returns-clause-all
returns-clause-all c = picks_keep_all
