use Rattle.civil_dates.proofs.Texts.{text_reads_back, read_is_text}
use Rattle.civil_dates.proofs.laws.texts_of_days.Goals as goal

pub returns-clause-read_back : goal.returns-clause-read_back
returns-clause-read_back c = text_reads_back

pub returns-clause-one : goal.returns-clause-one
returns-clause-one c = read_is_text
