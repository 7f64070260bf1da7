use Rattle.std.proofs.Common.{arith, drop, subst, ◌+◌}
use Rattle.row_lines.specs.RowText.{rows_text}
use Rattle.row_lines.specs.Writing.{WritesFront}
use Rattle.row_lines.proofs.Written.{writing_row, writing_passed, writing_cut}
use Rattle.row_lines.proofs.writing.write_rows.Goals as goal

pub loop-row-preserved : goal.loop-row-preserved
loop-row-preserved g c = record {
  so_far = writing_passed _ _ _ c.in-Ok.more.items _ _ _
      (writing_row _ _ _ c.in-Ok.more.items _ c.args.rows.now c.loop-row.row-index c.row-item.result c.loop-row.invariant.so_far (omega (arith, c.loop-row-test.true)) c.row-item.is c.in-Ok.ensures)
      c.in-Ok-pass_on.ensures.bytes;
  later = omega (arith, c.loop-row.invariant.later, c.pass_on.ensures.cause.later);
}

pub returns-in_default-pass_on-clause-bytes : goal.returns-in_default-pass_on-clause-bytes
returns-in_default-pass_on-clause-bytes g c =
    writing_cut _ _ _ c.in-Ok.more.items _ (rows_text (drop (c.loop-row.row-index + 1) c.args.rows.now))
    (writing_row _ _ _ c.in-Ok.more.items _ c.args.rows.now c.loop-row.row-index c.row-item.result c.loop-row.invariant.so_far (omega (arith, c.loop-row-test.true)) c.row-item.is c.in-Ok.ensures)
    c.in_default-pass_on.ensures.bytes

pub returns-clause-bytes : goal.returns-clause-bytes
returns-clause-bytes g c =
    writing_cut _ _ _ c.loop-row.pending.items _ _ c.loop-row.invariant.so_far
    (subst (λ l. WritesFront (g.T.Sink.taken c.loop-row.out) (g.T.Sink.taken c.write_all.new.out) l) c.deref.ensures.value c.in-Err.ensures.bytes)
