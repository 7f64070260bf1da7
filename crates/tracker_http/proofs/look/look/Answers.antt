use Rattle.tracker_http.proofs.HeadLemmas.{no_shorter, no_head}
use Rattle.tracker_http.proofs.look.look.Goals as goal

pub returns-then-spans-bytes : goal.returns-then-spans-bytes
returns-then-spans-bytes c =
    no_shorter c.args.bytes.now _ c.parse_request.new.headers c.in-Ok-Complete.spans c.requires.short c.requires.room c.if-spans-bytes.true
    (rw c.in-Ok-Complete.field-0-is at c.in-Ok-Complete.ensures.found)

pub returns-in-Err : goal.returns-in-Err
returns-in-Err c =
    no_head c.args.bytes.now _ c.parse_request.new.headers c.in-Err.field-0 c.requires.short c.requires.room c.in-Err.ensures.found
