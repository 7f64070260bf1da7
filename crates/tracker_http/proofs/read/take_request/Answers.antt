use Rattle.std.proofs.Common.{ap, ◌∙◌, subst, take}
use Rattle.tracker_http.specs.Requests.{IsRefused}
use Rattle.tracker_http.proofs.FaultLemmas.{taken_size}
use Rattle.tracker_http.proofs.StepsLemmas.{refused_step}
use Rattle.tracker_http.proofs.read.take_request.Goals as goal

pub returns-in-Refused-clause-bytes : goal.returns-in-Refused-clause-bytes
returns-in-Refused-clause-bytes g c =
    let front = c.split_at.ensures.front ∙ ap (take c.args.len) c.deref.ensures.value in
    let why = subst (λ t. IsRefused t c.in-Refused.refusal c.in-Refused.head) front c.in-Refused.ensures in
    refused_step _ c.args.held.now.items _ c.args.len c.in-Refused.refusal.status c.in-Refused.refusal.allow c.in-Refused.head c.drop_front.ensures why

pub finish-requires-clause-size : goal.finish-requires-clause-size
finish-requires-clause-size g c = taken_size _ _ _ _ c.in-Taken.ensures
