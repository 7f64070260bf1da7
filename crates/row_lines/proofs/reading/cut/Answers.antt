use Rattle.request_lines.proofs.LinesLemmas.{lines-last}
use Rattle.row_lines.proofs.Lines.{line_cut}
use Rattle.row_lines.proofs.reading.cut.Goals as goal

pub returns-in-Some-clause-lines : goal.returns-in-Some-clause-lines
returns-in-Some-clause-lines c = line_cut c.args.bytes.now c.in-Some.end c.in-Some.ensures

pub returns-in-None-clause-lines : goal.returns-in-None-clause-lines
returns-in-None-clause-lines c = lines-last c.args.bytes.now c.in-None.ensures c.requires
