use Rattle.row_dumps.proofs.Walked.{AreFormed}
use Rattle.row_dumps.proofs.formed.rows_have_form.Given as goal

abbrev pub invariant-loop-row : goal.invariant-loop-row
invariant-loop-row l = AreFormed l.rows l.row-index
