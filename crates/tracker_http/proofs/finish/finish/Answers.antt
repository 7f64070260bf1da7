use Rattle.std.proofs.Common.{ap, ◌∙◌, subst, take, drop}
use Rattle.tracker_http.proofs.StepsLemmas.{taken_still, still_within, cut_step, request_step}
use Rattle.tracker_http.specs.Requests.{Says}
use Rattle.tracker_http.specs.Spans.{head_at}
use Rattle.tracker_http.proofs.finish.finish.Goals as goal

pub returns-in-Ended-clause-bytes : goal.returns-in-Ended-clause-bytes
returns-in-Ended-clause-bytes g c =
    let all = c.in-Ended.ensures.all in
    let within = still_within _ _ c.args.len c.in-Ended.ensures.grew c.requires.within in
    let taken = taken_still _ _ _ _ _ _ c.in-Ended.ensures.grew c.requires.within c.requires.taken in
    cut_step _ _ c.hold_all.new.held.items _ c.args.len c.args.body_len c.args.room.now c.args.spans c.clear.ensures.items taken within c.in-Ended.ensures.same all.0 all.1

pub returns-clause-bytes : goal.returns-clause-bytes
returns-clause-bytes g c =
    let taken = taken_still _ _ _ _ _ _ c.in-Read.ensures.grew c.requires.within c.requires.taken in
    let front = c.split_at.ensures.front ∙ ap (take c.args.len) c.deref.ensures.value in
    let back = c.split_at.ensures.back ∙ ap (drop c.args.len) c.deref.ensures.value in
    request_step _ _ c.hold_all.new.held.items _ c.args.len c.args.body_len c.args.room.now c.args.spans c.in-Ok.request c.drop_front.ensures taken c.in-Read.ensures.same c.in-Read.ensures.all
    (subst (λ t. Says (head_at t c.args.room.now c.args.spans) c.in-Ok.request) front c.in-Ok.ensures.says)
    (c.in-Ok.ensures.body ∙ c.split_at-2.ensures.front ∙ ap (take c.args.body_len) back)
