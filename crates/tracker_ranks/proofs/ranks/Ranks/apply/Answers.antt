use Rattle.std.proofs.Common.{ap}
use Rattle.board.specs.Order.{Ranking}
use Rattle.tracker_ranks.specs.Ranked.{OrderedIssues}
use Rattle.tracker_ranks.proofs.Keeping.{steps_keep_ranks}
use Rattle.tracker_ranks.proofs.ranks.Ranks.apply.Goals as goal

pub invariant_of-self : goal.invariant_of-self
invariant_of-self c =
    let order = ap (λ (v : OrderedIssues). v.order) c.self.view_is in
    let balance = ap (λ (v : OrderedIssues). v.balance) c.self.view_is in
    let ranked = rw (order, balance) at c.self.invariant in
    let applied = ap (λ (r : Ranking). r.pairs) c.apply.ensures.order in
    rw (c.apply.ensures.balance, applied, order, balance)
    (steps_keep_ranks c.args.self.now.order c.args.self.now.balance c.args.plan ranked c.requires.moving c.requires.picks).ranked
