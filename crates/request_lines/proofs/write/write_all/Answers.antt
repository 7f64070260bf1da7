use Rattle.std.proofs.Common.{arith}
use Rattle.request_lines.proofs.Known.{WritesMore}
use Rattle.request_lines.proofs.write.write_all.Goals as goal

pub loop-rest-preserved : goal.loop-rest-preserved
loop-rest-preserved g c = record {
  later = omega (arith, c.loop-rest.invariant.later, c.write.ensures.cause.later);
  parts = WritesMore _ _ _ _ _ _ c.in_ok-count.count c.split_at.ensures.back c.loop-rest.invariant.parts c.in_ok-count.ensures.bytes;
}
