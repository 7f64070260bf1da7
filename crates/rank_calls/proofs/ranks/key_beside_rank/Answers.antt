use Rattle.std.proofs.Common.{◌≡◌, Option, Some, None, IfOk, sym, subst, arith}
use Rattle.rank_strings.specs.Rank.{RankParts}
use Rattle.board.specs.Order.{rank_in}
use Rattle.board.specs.Table.{rank_or_nothing}
use Rattle.board.proofs.Viewed.{rank_in-none}
use Rattle.tracker_machine.specs.Ranks.{ranked_key}
use Rattle.rank_calls.proofs.ranks.key_beside_rank.Goals as goal

pub returns : goal.returns
returns c =
    let m = c.args.state.now.machine in
    let has : Some c.in-Some.rank.now ≡ rank_in m.order c.args.issue.0 = rw c.ranks.ensures.order at c.in-Some.ensures in
    subst (λ (o : Option RankParts). IfOk c.ranked_key.result (λ told. told ≡ ranked_key m.histories (rank_or_nothing o, c.args.issue))) has c.ranked_key.ensures

-- it stands in the order, so it has a rank
pub unreachable-requires : goal.unreachable-requires
unreachable-requires c =
    let m = c.args.state.now.machine in
    let none : None ≡ rank_in m.order c.args.issue.0 = rw c.ranks.ensures.order at c.in-None.ensures in
    omega (arith, c.requires, rank_in-none m.order c.args.issue.0 (sym none))
