use Rattle.std.proofs.Common.{ap}
use Rattle.board.specs.Order.{Ranking}
use Rattle.tracker_ranks.specs.Ranked.{OrderedIssues}
use Rattle.tracker_ranks.proofs.Keeping.{free_to_move, moves_alone}
use Rattle.tracker_ranks.proofs.ranks.Ranks.set.Goals as goal

pub put-requires-clause-free : goal.put-requires-clause-free
put-requires-clause-free c =
    let order = ap (λ (v : OrderedIssues). v.order) c.self.view_is in
    let balance = ap (λ (v : OrderedIssues). v.balance) c.self.view_is in
    let ranked = rw (order, balance) at c.self.invariant in
    rw order
    (free_to_move c.args.self.now.order c.args.self.now.balance c.args.issue c.requires.place c.args.rank ranked c.requires.named c.requires.given)

pub invariant_of-self : goal.invariant_of-self
invariant_of-self c =
    let order = ap (λ (v : OrderedIssues). v.order) c.self.view_is in
    let balance = ap (λ (v : OrderedIssues). v.balance) c.self.view_is in
    let ranked = rw (order, balance) at c.self.invariant in
    let put = ap (λ (r : Ranking). r.pairs) c.put.ensures in
    rw (put, order, balance)
    (moves_alone c.args.self.now.order c.args.self.now.balance c.args.issue c.requires.place c.args.rank ranked c.requires.named c.requires.given).ranked
