use Rattle.std.proofs.Common.{rules}
use Rattle.tracker_http.proofs.Reasons.{has_reason, is_code}
use Rattle.tracker_http.proofs.response.reason_of.Goals as goal

pub unreachable-requires : goal.unreachable-requires
unreachable-requires c =
    let known = has_reason c.args.status c.requires in
    search rules

pub unreachable-requires-in-Err : goal.unreachable-requires-in-Err
unreachable-requires-in-Err c =
    let known = is_code c.args.status c.requires in
    search rules
