use Rattle.std.proofs.Common.{arith}
use Rattle.filter_views.proofs.Sifting.{sunk, sunk_low}
use Rattle.filter_views.proofs.Moves.{only_moves_more}
use Rattle.filter_views.proofs.heap.sink.Goals as goal

pub loop-child-preserved : goal.loop-child-preserved
loop-child-preserved c =
    let i = c.loop-child.invariant in
    let p = c.in-Some.ensures in
    let swapped = c.exchange.ensures.swapped in
    let size = c.exchange.ensures.same.size in
    record {
      in_range = omega (arith, p.in_range, size);
      agree = c.exchange.ensures.agree;
      but = sunk c.loop-child.heap c.exchange.new.heap c.loop-child.at c.in-Some.child i.but i.low p swapped size;
      low = sunk_low c.loop-child.heap c.exchange.new.heap c.loop-child.at c.in-Some.child i.but i.low p swapped size;
      same = only_moves_more _ _ _ _ _ _ i.same c.exchange.ensures.same;
    }
