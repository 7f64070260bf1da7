use Rattle.std.proofs.Common.{ap, ◌∙◌}
use Rattle.board.specs.Order.{Ranking, longest_in}
use Rattle.board.specs.Table.{pairs_by}
use Rattle.board.proofs.Counts.{longest_in-counts}
use Rattle.board.proofs.order.Order.longest.Goals as goal

pub returns : goal.returns
returns c =
    let is = rw c.deref.ensures.value at c.longest.ensures in
    longest_in-counts (pairs_by c.self.inside.ranks.items c.self.inside.issues.items) c.self.inside.counts.items c.longest.result c.self.invariant.counted is
    ∙ ap (λ (v : Ranking). longest_in v.pairs) c.self.view_is
