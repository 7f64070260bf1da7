use Rattle.std.proofs.Common.{get_or, None, rules}
use Rattle.std.proofs.lemmas.Fn.{always_returns_same}
use Rattle.board.specs.Search.{is_below}
use Rattle.board.proofs.Tabled.{parted_issues, front_issues}
use Rattle.board.proofs.find.count_below.Goals as goal

-- the closure says whether an issue's rank is less
pub returns : goal.returns
returns c =
    let facts = c.partition_point.ensures in
    let t = c.args.ranks.now in
    let is = c.args.issues.now in
    let r = c.args.rank.now in
    front_issues t is c.requires.order c.requires.table r c.partition_point.result c.requires.rank facts.bound
    (facts.partitioned (λ i. is_below (get_or t i.0 None) r) (always_returns_same _ _ _ (λ a b g called. search rules)) (parted_issues t is c.requires.order c.requires.table r))
