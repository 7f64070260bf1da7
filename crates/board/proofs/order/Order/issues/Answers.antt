use Rattle.std.proofs.Common.{ap, map, ◌∙◌}
use Rattle.board.specs.Order.{Pair, Ranking}
use Rattle.board.proofs.Tabled.{issues-pairs}
use Rattle.board.proofs.order.Order.issues.Goals as goal

pub returns-clause-issues : goal.returns-clause-issues
returns-clause-issues c =
    c.deref.ensures.value ∙ issues-pairs c.self.inside.ranks.items c.self.inside.issues.items
    ∙ ap (λ (v : Ranking). map (λ (p : Pair). p.1) v.pairs) c.self.view_is
