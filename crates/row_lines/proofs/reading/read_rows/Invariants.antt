use Rattle.std.proofs.Common.{length}
use Rattle.row_lines.proofs.Told.{IsTold}
use Rattle.row_lines.proofs.reading.read_rows.Given as goal

abbrev pub invariant-loop-rest : goal.invariant-loop-rest
invariant-loop-rest l = IsTold l.fn.bytes l.rest l.rows.items

abbrev pub decreases-loop-rest : goal.decreases-loop-rest
decreases-loop-rest l = length l.rest
