use Rattle.board.proofs.Computed.{rank_is_computed, rank_given_alone, refusal_alone, moves_keep_the_order}
use Rattle.board.proofs.laws.computed_moves.Goals as goal

pub returns-clause-rank : goal.returns-clause-rank
returns-clause-rank c = rank_is_computed

pub returns-clause-alone : goal.returns-clause-alone
returns-clause-alone c = rank_given_alone

pub returns-clause-refusal : goal.returns-clause-refusal
returns-clause-refusal c = refusal_alone

pub returns-clause-order : goal.returns-clause-order
returns-clause-order c = moves_keep_the_order
