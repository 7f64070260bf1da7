use Rattle.request_lines.proofs.LinesLemmas.{not_one_line}
use Rattle.request_lines.proofs.reader.LineReader.has_line.Goals as goal

pub returns-in-Some : goal.returns-in-Some
returns-in-Some c =
    let feed = rw c.held.ensures at (c.in-Some.ensures).2 in
    not_one_line c.args.self.now _ _ feed
