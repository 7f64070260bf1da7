use Rattle.std.proofs.Common.{◌∙◌}
use Rattle.board.proofs.Viewed.{places_compared}
use Rattle.board.proofs.order.Order.compare.Goals as goal

pub returns : goal.returns
returns c =
    let by_ranks = rw (c.rank_of.ensures, c.rank_of-2.ensures) at c.compare.ensures in
    by_ranks ∙ places_compared c.args.self.now.pairs c.args.one.0 c.args.other.0 c.issues.ensures.order
