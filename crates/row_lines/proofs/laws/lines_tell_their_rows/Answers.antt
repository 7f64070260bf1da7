use Rattle.row_lines.proofs.Printed.{is_line}
use Rattle.row_lines.proofs.Told.{one_row}
use Rattle.row_lines.proofs.laws.lines_tell_their_rows.Goals as goal

pub returns-clause-again : goal.returns-clause-again
returns-clause-again c = is_line

pub returns-clause-one : goal.returns-clause-one
returns-clause-one c = one_row
