use Rattle.std.proofs.Common.{None, get_or, ap, ◌∙◌, arith}
use Rattle.board.proofs.Tabled.{get_or-push_default}
use Rattle.board.proofs.room.room_for_numbers.Goals as goal

pub loop-made-preserved : goal.loop-made-preserved
loop-made-preserved c =
    record {
      same = λ i. ap (λ xs. get_or xs i None) c.push_reserved.ensures.items ∙ get_or-push_default c.loop-made.ranks.items None i ∙ c.loop-made.invariant.same i;
      count = omega arith;
      room = omega (arith, c.push_reserved.ensures.capacity, c.loop-made.invariant.room);
    }
