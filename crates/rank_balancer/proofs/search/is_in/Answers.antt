use Rattle.std.proofs.Common.{◌≡◌, arith}
use Rattle.std.proofs.lemmas.Bool.Decides.{nat_tests}
use Rattle.rank_balancer.specs.Border.{bucket_at}
use Rattle.rank_balancer.proofs.Picks.{bucket_below, some_below}
use Rattle.rank_balancer.proofs.search.is_in.Goals as goal

pub returns-in-Some : goal.returns-in-Some
returns-in-Some c =
    let same : c.in-Some.rank.now.bucket ≡ bucket_at c.args.order.now.pairs c.args.place = bucket_below c.args.order.now.pairs c.args.place c.in-Some.rank.now c.requires c.in-Some.ensures in
    grind (arith, nat_tests)

pub returns-in-None : goal.returns-in-None
returns-in-None c = absurd (some_below c.args.order.now.pairs c.args.place c.requires c.in-None.ensures)
