use Rattle.std.proofs.Common.{◌≡◌, rules}
use Rattle.std.specs.Ordering.{eq_by_cmp}
use Rattle.rank_strings.specs.Rank.{rank_cmp}
use Rattle.rank_strings.proofs.Reading.{same_decided}
use Rattle.rank_strings.proofs.compare.RankPartialEq.eq.Goals as goal

pub returns-clause-same : goal.returns-clause-same
returns-clause-same c =
    let value : c.eq.result ≡ eq_by_cmp rank_cmp c.args.self.now c.args.other.now = search rules in
    same_decided _ _ c.cmp.ensures.ranks.0 c.cmp.ensures.ranks.1 c.eq.result value
