use Rattle.call_lines.proofs.AskedLines.{data_of-no_text}
use Rattle.watch_lines.proofs.Lines.{watch_line-none}
use Rattle.watch_lines.proofs.line.read_watch.Goals as goal

pub returns-in-Err : goal.returns-in-Err
returns-in-Err c = watch_line-none _ (data_of-no_text _ c.in-Err.ensures.cases.0)
