use Rattle.std.proofs.Common.{ap, sym, ◌∙◌}
use Rattle.std.specs.Option.{option_copied}
use Rattle.board.specs.Table.{pairs_by}
use Rattle.board.proofs.Tabled.{place-front, place-none}
use Rattle.board.proofs.find.place_by.Goals as goal

pub returns-in-Some : goal.returns-in-Some
returns-in-Some c =
    let ps = pairs_by c.args.ranks.now c.args.issues.now in
    place-front ps c.args.issue.0 c.in-Some.rank.now c.count_below.result c.requires.order (sym (c.requires.table c.args.issue.0) ∙ sym c.rank_by.ensures ∙ ap option_copied c.in-Some.is) c.count_below.ensures

pub returns-in-None : goal.returns-in-None
returns-in-None c =
    let ps = pairs_by c.args.ranks.now c.args.issues.now in
    place-none ps c.args.issue.0 (sym (c.requires.table c.args.issue.0) ∙ sym c.rank_by.ensures ∙ ap option_copied c.in-None.is)
