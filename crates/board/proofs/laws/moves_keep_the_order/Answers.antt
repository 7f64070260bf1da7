use Rattle.board.proofs.Placing.{order_is_kept, ranks_put_there}
use Rattle.board.proofs.laws.moves_keep_the_order.Goals as goal

pub returns-clause-there : goal.returns-clause-there
returns-clause-there c = ranks_put_there

pub returns-clause-kept : goal.returns-clause-kept
returns-clause-kept c = order_is_kept
