use Rattle.tracker_rows.proofs.Verdicts.{rows_load_one, first_bad_is_one, loaded_have_no_bad}
use Rattle.tracker_rows.proofs.laws.rows_load_or_are_bad.Goals as goal

pub returns-clause-one : goal.returns-clause-one
returns-clause-one c = rows_load_one

pub returns-clause-first : goal.returns-clause-first
returns-clause-first c = first_bad_is_one

pub returns-clause-apart : goal.returns-clause-apart
returns-clause-apart c = loaded_have_no_bad
