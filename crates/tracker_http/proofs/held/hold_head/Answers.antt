use Rattle.std.proofs.Common.{ap, ◌∙◌, arith, ◌≡◌, take, length}
use Rattle.tracker_http.specs.HeadEnd.{head_len}
use Rattle.tracker_http.proofs.StepsLemmas.{short_none}
use Rattle.tracker_http.proofs.held.hold_head.Goals as goal

pub returns-in-Ended-clause-head : goal.returns-in-Ended-clause-head
returns-in-Ended-clause-head g c =
    let more = c.in-Ended.ensures.more in
    let seen : c.head_len.result ≡ head_len (take 8192 c.more.held.items) = c.head_len.ensures ∙ ap head_len (c.front.ensures ∙ ap (take 8192) c.deref.ensures.value) in (
      short_none c.more.held.items _ c.head_len.result more.0 (omega (arith, c.if-len-ge-HEAD_LIMIT.false)) seen c.in_default.is,
      omega (arith, c.if-len-ge-HEAD_LIMIT.false, ap length more.0),
      more.1,
    )
