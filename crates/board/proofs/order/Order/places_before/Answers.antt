use Rattle.std.proofs.Common.{◌≡◌, None, sym, ◌∙◌}
use Rattle.board.specs.Order.{place_in}
use Rattle.board.proofs.Gaps.{places_before_none}
use Rattle.board.proofs.order.Order.places_before.Goals as goal

pub returns-in-None : goal.returns-in-None
returns-in-None c =
    let none : place_in c.args.self.now.pairs c.args.issue.0 ≡ None = sym c.place_of.ensures.place ∙ c.in-None.is in
    c.len.ensures ∙ places_before_none c.args.self.now.pairs c.args.issue.0 none
