use Rattle.std.proofs.Common.{List, subst, Some}
use Rattle.board.specs.Order.{Pair}
use Rattle.board.specs.Moved.{IsRefusalOf}
use Rattle.rank_balancer.specs.declared.balance.Balance.{Balance}
use Rattle.tracker_ranks.specs.Ranked.{rank_for}
use Rattle.tracker_machine.specs.Rank.{moved_rank}
use Rattle.rank_calls.proofs.moves.moved_rank.Goals as goal

pub returns-in-Err-clause-check : goal.returns-in-Err-clause-check
returns-in-Err-clause-check c =
    let m = c.args.state.now.machine in
    let issue = Some c.args.issue in
    c.refusal_of.ensures.rank (moved_rank m c.args.issue c.args.place)
    (subst (λ (b : Balance). IsRefusalOf (rank_for m.order b issue c.args.place) c.in-Err.fault) c.ranks.ensures.balance
    (subst (λ (ps : List Pair). IsRefusalOf (rank_for ps c.ranks.result.now.balance issue c.args.place) c.in-Err.fault) c.ranks.ensures.order c.in-Err.ensures))
