use Rattle.std.proofs.Common.{◌≡◌, Some, length, ap, sym, ◌∙◌, arith}
use Rattle.board.specs.Order.{Ranking, place_in, beside}
use Rattle.board.proofs.Given.{found_from_some}
use Rattle.board.proofs.Tabled.{length-pairs}
use Rattle.board.proofs.Viewed.{beside_by}
use Rattle.board.proofs.order.Order.neighbours.Goals as goal

pub neighbours_at-requires : goal.neighbours_at-requires
neighbours_at-requires c =
    let ps = c.args.self.now.pairs in
    let t = c.self.inside.ranks.items in
    let is = c.self.inside.issues.items in
    let some : place_in ps c.args.issue.0 ≡ Some c.in-Some.place = sym c.place_of.ensures.place ∙ c.in-Some.is in
    let found = found_from_some ps c.args.issue.0 c.in-Some.place some in
    let many : length is ≡ length ps = sym (length-pairs t is) ∙ ap (λ (v : Ranking). length v.pairs) c.self.view_is in
    rw c.deref.ensures.value (omega (arith, found.0, many))

pub returns-in-Some : goal.returns-in-Some
returns-in-Some c =
    let ps = c.args.self.now.pairs in
    let t = c.self.inside.ranks.items in
    let is = c.self.inside.issues.items in
    let some : place_in ps c.args.issue.0 ≡ Some c.in-Some.place = sym c.place_of.ensures.place ∙ c.in-Some.is in
    let here = rw c.deref.ensures.value at c.neighbours_at.ensures in
    here ∙ beside_by t is c.in-Some.place ∙ ap (λ (v : Ranking). beside v.pairs (Some c.in-Some.place)) c.self.view_is ∙ ap (beside ps) (sym some)
