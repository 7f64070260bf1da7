use Rattle.std.proofs.Common.{List, subst, None}
use Rattle.board.specs.declared.place.Place.TheVariants.{Last}
use Rattle.board.specs.Order.{Pair}
use Rattle.board.specs.Moved.{IsRefusalOf}
use Rattle.rank_balancer.specs.declared.balance.Balance.{Balance}
use Rattle.tracker_ranks.specs.Ranked.{rank_for}
use Rattle.tracker_machine.specs.Rank.{last_rank}
use Rattle.issue_calls.proofs.new_issue.last_rank.Goals as goal

pub returns-in-Err-clause-check : goal.returns-in-Err-clause-check
returns-in-Err-clause-check c =
    let m = c.args.state.now.machine in
    c.refusal_of.ensures.rank (last_rank m)
    (subst (λ (b : Balance). IsRefusalOf (rank_for m.order b None Last) c.in-Err.fault) c.ranks.ensures.balance
    (subst (λ (ps : List Pair). IsRefusalOf (rank_for ps c.ranks.result.now.balance None Last) c.in-Err.fault) c.ranks.ensures.order c.in-Err.ensures))
