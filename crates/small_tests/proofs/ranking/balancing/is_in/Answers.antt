use Rattle.std.proofs.Common.{◌≡◌, ◌⊎◌, Some, None, ◌∙◌, ap, subst}
use Rattle.board.specs.Search.{rank_at}
use Rattle.board.proofs.Viewed.{rank_below-at}
use Rattle.rank_balancer.specs.Border.{bucket_at}
use Rattle.small_tests.proofs.ranking.balancing.is_in.Goals as goal

pub returns-in-Some : goal.returns-in-Some
returns-in-Some c told =
    let ps = c.args.order.now.pairs in
    let some : Some c.in-Some.rank.now ≡ Some (rank_at ps c.args.place) = c.in-Some.ensures ∙ rank_below-at ps c.args.place c.requires in
    let rank : c.in-Some.rank.now ≡ rank_at ps c.args.place = cc in
    let bucket : c.bucket.result ≡ bucket_at ps c.args.place = c.bucket.ensures.bucket ∙ ap (λ r. r.bucket) rank in
    subst (λ b. (b ≡ c.args.one) ⊎ (b ≡ c.args.other)) bucket (c.is_one_of.ensures told)
