use Rattle.std.proofs.Common.{arith}
use Rattle.request_lines.proofs.Pieces.{ends_line, goes_on_line, too_long_line}
use Rattle.request_lines.proofs.reader.LineReader.next_line.Goals as goal

pub returns-in-Ended-clause-bytes : goal.returns-in-Ended-clause-bytes
returns-in-Ended-clause-bytes g c = ends_line _ _ _ _ _ _ _ c.loop-count.invariant.line c.loop-count.invariant.taken c.in-Ok-true.ensures.same c.in-Ended.ensures

pub returns-in-TooLong-clause-bytes : goal.returns-in-TooLong-clause-bytes
returns-in-TooLong-clause-bytes g c = too_long_line _ _ _ _ _ _ _ c.loop-count.invariant.line c.loop-count.invariant.taken c.in-Ok-true.ensures.same c.in-TooLong.ensures

pub loop-count-preserved : goal.loop-count-preserved
loop-count-preserved g c =
    let next = goes_on_line _ _ _ _ _ _ _ c.loop-count.invariant.line c.loop-count.invariant.taken c.in-Ok-true.ensures.same c.in-Open.ensures in
    record {
      count = omega (arith, next.2, c.loop-count.invariant.count);
      line = next.0;
      taken = next.1;
      later = omega (arith, c.loop-count.invariant.later, c.fill.ensures.cause.later);
    }
