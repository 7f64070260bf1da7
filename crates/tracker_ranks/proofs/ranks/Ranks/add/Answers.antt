use Rattle.std.proofs.Common.{ap, refl}
use Rattle.board.specs.Order.{Ranking}
use Rattle.tracker_ranks.specs.Ranked.{OrderedIssues}
use Rattle.tracker_ranks.proofs.Keeping.{free_to_add, added_last, goes_last}
use Rattle.tracker_ranks.proofs.ranks.Ranks.add.Goals as goal

pub put-requires-clause-free : goal.put-requires-clause-free
put-requires-clause-free c =
    let order = ap (λ (v : OrderedIssues). v.order) c.self.view_is in
    let balance = ap (λ (v : OrderedIssues). v.balance) c.self.view_is in
    let ranked = rw (order, balance) at c.self.invariant in
    rw order (free_to_add c.args.self.now.order c.args.self.now.balance c.args.next c.args.rank ranked c.requires.given)

pub invariant_of-self : goal.invariant_of-self
invariant_of-self c =
    let order = ap (λ (v : OrderedIssues). v.order) c.self.view_is in
    let balance = ap (λ (v : OrderedIssues). v.balance) c.self.view_is in
    let ranked = rw (order, balance) at c.self.invariant in
    let put = ap (λ (r : Ranking). r.pairs) c.put.ensures in
    let last = added_last c.args.self.now.order c.args.self.now.balance c.args.next c.args.rank ranked c.requires.given in
    rw (put, order, balance, last) (goes_last c.args.self.now.order c.args.self.now.balance c.args.next c.args.rank ranked c.requires.given).ranked

pub returns : goal.returns
returns c =
    let order = ap (λ (v : OrderedIssues). v.order) c.self.view_is in
    let balance = ap (λ (v : OrderedIssues). v.balance) c.self.view_is in
    let room = ap (λ (v : OrderedIssues). v.room) c.self.view_is in
    let ranked = rw (order, balance) at c.self.invariant in
    let last = added_last c.args.self.now.order c.args.self.now.balance c.args.next c.args.rank ranked c.requires.given in
    rw (c.put.ensures, order, balance, room, last) refl
