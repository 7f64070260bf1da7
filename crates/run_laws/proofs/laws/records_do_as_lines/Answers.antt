use Rattle.run_laws.proofs.Records.{records_do_as_lines}
use Rattle.run_laws.proofs.laws.records_do_as_lines.Goals as goal

pub returns : goal.returns
returns c = records_do_as_lines
