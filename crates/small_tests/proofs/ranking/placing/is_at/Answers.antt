use Rattle.std.proofs.Common.{◌≡◌, Some, None, ◌∙◌, rules}
use Rattle.board.specs.Search.{rank_at}
use Rattle.board.proofs.Viewed.{rank_below-at}
use Rattle.small_tests.proofs.ranking.placing.is_at.Goals as goal

pub returns-in-Some : goal.returns-in-Some
returns-in-Some c same =
    let ps = c.args.order.now.pairs in
    let some : Some c.in-Some.own.now ≡ Some (rank_at ps c.args.place) = c.in-Some.ensures ∙ rank_below-at ps c.args.place c.requires in
    let own : c.in-Some.own.now ≡ c.args.rank.now = cc in
    search rules

pub returns-in-None : goal.returns-in-None
returns-in-None c same =
    let ps = c.args.order.now.pairs in
    let none : None ≡ Some (rank_at ps c.args.place) = c.in-None.ensures ∙ rank_below-at ps c.args.place c.requires in
    absurd (cc)
