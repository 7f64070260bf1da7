use Rattle.std.proofs.Common.{rules}
use Rattle.std.proofs.lemmas.Fn.{always_returns_same}
use Rattle.board.specs.Order.{rank_in}
use Rattle.rank_balancer.specs.Border.{is_up_to}
use Rattle.rank_balancer.proofs.Picks.{issues_parted, border_of_issues}
use Rattle.rank_balancer.proofs.search.count_up_to.Goals as goal

-- the closure says whether an issue's rank is in a bucket up to this one
pub returns : goal.returns
returns c =
    let facts = c.partition_point.ensures in
    let ps = c.args.order.now.pairs in
    let is = c.issues.result.now in
    border_of_issues ps c.issues.ensures.order c.args.bucket is c.issues.ensures.issues c.partition_point.result facts.bound
    (facts.partitioned (λ i. is_up_to c.args.bucket (rank_in ps i.0)) (always_returns_same _ _ _ (λ a b g called. search rules))
    (issues_parted ps c.issues.ensures.order c.args.bucket is c.issues.ensures.issues))
