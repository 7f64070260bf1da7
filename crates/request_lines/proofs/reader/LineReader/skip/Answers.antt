use Rattle.request_lines.proofs.Pieces.{rest_at_hand}
use Rattle.request_lines.proofs.reader.LineReader.skip.Goals as goal

pub returns : goal.returns
returns c = rest_at_hand _ _ _ _ _ c.self.view_is c.self.invariant.0 c.requires
