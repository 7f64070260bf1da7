use Rattle.rank_balancer.proofs.Agreeing.{places_keep_the_balance, moves_keep_the_balance}
use Rattle.rank_balancer.proofs.laws.moves_keep_the_balance.Goals as goal

pub returns-clause-put : goal.returns-clause-put
returns-clause-put c = places_keep_the_balance

pub returns-clause-moved : goal.returns-clause-moved
returns-clause-moved c = moves_keep_the_balance
