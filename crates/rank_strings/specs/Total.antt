-- The order of ranks is total.
use Rattle.std.specs.Cmp.{IsTotalOrder}
use Rattle.std.proofs.lemmas.Cmp.{nat_cmp_total, nat_list_cmp_total, on_total, then_total}
use Rattle.rank_strings.specs.Rank.{RankParts, digits, rank_cmp}

pub rank_cmp-total : IsTotalOrder rank_cmp
rank_cmp-total =
    then_total (on_total (λ (r : RankParts). r.bucket) nat_cmp_total)
    (on_total digits nat_list_cmp_total)
