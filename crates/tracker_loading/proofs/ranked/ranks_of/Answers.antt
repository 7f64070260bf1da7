use Rattle.tracker_loading.specs.Making.{order_of}
use Rattle.tracker_loading.proofs.Ordered.{may_be_ranked, loaded_order}
use Rattle.tracker_loading.proofs.ranked.ranks_of.Goals as goal

pub unreachable-requires : goal.unreachable-requires
unreachable-requires c =
    let no = rw c.in-None.is at c.in_ok-ranked.ensures in
    no (may_be_ranked c.args.ranks.items (order_of c.args.ranks.items) c.args.balance c.requires.permuted c.requires.ranked)

pub returns-clause-order : goal.returns-clause-order
returns-clause-order c =
    let are = rw c.in-Some.is at c.in_ok-ranked.ensures in
    let ranks = c.args.ranks.items in
    loaded_order ranks (order_of ranks) c.args.balance c.requires.permuted c.requires.ranked c.in-Some.ranked c.order.ensures.ranked are
