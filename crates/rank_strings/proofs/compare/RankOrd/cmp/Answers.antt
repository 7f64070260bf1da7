use Rattle.rank_strings.proofs.Order.{rank_cmp-parts, slice_cmp-rank_text}
use Rattle.rank_strings.proofs.compare.RankOrd.cmp.Goals as goal

pub returns-clause-order : goal.returns-clause-order
returns-clause-order c = cc (rank_cmp-parts _ _ c.front.ensures.is_rank c.front-2.ensures.is_rank)

pub returns-clause-texts : goal.returns-clause-texts
returns-clause-texts c =
    cc (
      rank_cmp-parts _ _ c.front.ensures.is_rank c.front-2.ensures.is_rank,
      slice_cmp-rank_text _ _ c.front.ensures.is_rank c.front-2.ensures.is_rank,
    )
