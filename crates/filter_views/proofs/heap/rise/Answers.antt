use Rattle.std.proofs.Common.{arith}
use Rattle.filter_views.proofs.Sifting.{risen}
use Rattle.filter_views.proofs.Moves.{only_moves_more}
use Rattle.filter_views.proofs.heap.rise.Goals as goal

pub loop-parent-preserved : goal.loop-parent-preserved
loop-parent-preserved c =
    let i = c.loop-parent.invariant in
    let p = c.in-Some.ensures in
    record {
      in_range = omega (arith, p.is_parent, p.not_first, i.in_range, c.exchange.ensures.same.size);
      agree = c.exchange.ensures.agree;
      but = risen c.loop-parent.heap c.exchange.new.heap c.loop-parent.at c.in-Some.parent i.in_range i.but p c.exchange.ensures.swapped c.exchange.ensures.same.size;
      same = only_moves_more _ _ _ _ _ _ i.same c.exchange.ensures.same;
    }
