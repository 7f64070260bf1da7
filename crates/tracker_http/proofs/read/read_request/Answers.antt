use Rattle.tracker_http.proofs.StepsLemmas.{whole_front, most_step}
use Rattle.tracker_http.proofs.read.read_request.Goals as goal

pub take_request-requires-clause-within : goal.take_request-requires-clause-within
take_request-requires-clause-within g c = (whole_front c.hold_head.new.held.items c.in-Whole.len c.in-Whole.ensures.head).0

pub take_request-requires-clause-whole : goal.take_request-requires-clause-whole
take_request-requires-clause-whole g c = (whole_front c.hold_head.new.held.items c.in-Whole.len c.in-Whole.ensures.head).1

pub returns-in-Most-clause-bytes : goal.returns-in-Most-clause-bytes
returns-in-Most-clause-bytes g c =
    let head = c.in-Most.ensures.head in
    most_step _ _ c.hold_head.new.held.items _ c.in-Most.ensures.same c.drop_front.ensures head.0 head.1
