use Rattle.row_lines.proofs.Told.{told_again, one_told, none_bad}
use Rattle.row_lines.proofs.laws.texts_tell_their_rows.Goals as goal

pub returns-clause-again : goal.returns-clause-again
returns-clause-again c = told_again

pub returns-clause-one : goal.returns-clause-one
returns-clause-one c = one_told

pub returns-clause-apart : goal.returns-clause-apart
returns-clause-apart c = none_bad
