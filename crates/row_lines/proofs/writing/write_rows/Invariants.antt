use Rattle.std.proofs.Common.{◌≤◌, drop}
use Rattle.row_lines.specs.RowText.{rows_text}
use Rattle.row_lines.proofs.Written.{IsWriting}
use Rattle.row_lines.proofs.writing.write_rows.Given as goal

abbrev pub invariant-loop-row : goal.invariant-loop-row
invariant-loop-row g l = record {
  so_far : IsWriting (g.T.Sink.taken l.fn.out) (g.T.Sink.taken l.out) l.pending.items (rows_text l.rows) (rows_text (drop l.row-index l.rows));
  later : g.T.Sink.faults l.fn.out ≤ g.T.Sink.faults l.out;
}
