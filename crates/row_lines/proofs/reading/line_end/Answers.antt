use Rattle.request_lines.proofs.Pieces.{IsLineEnd-found}
use Rattle.row_lines.proofs.reading.line_end.Goals as goal

pub returns : goal.returns
returns c = IsLineEnd-found _ _ c.memchr.ensures
