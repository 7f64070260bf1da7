use Rattle.std.proofs.Common.{sym}
use Rattle.call_lines.proofs.AskedLines.{UnlessMemory-along, data_of-no_text, line_of-none}
use Rattle.call_lines.proofs.line.read_line_in.Goals as goal

pub returns-in-Err : goal.returns-in-Err
returns-in-Err c = c.unlent.ensures _ (UnlessMemory-along _ (sym (line_of-none _ (data_of-no_text _ c.in-Err.ensures.cases.0))) c.misses.ensures)
