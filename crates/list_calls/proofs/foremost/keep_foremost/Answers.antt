use Rattle.std.proofs.Common.{◌≡◌, ◌∙◌, List, ap, sym, map, take, Bor}
use Rattle.std.specs.Prelude.{option_copied}
use Rattle.change_history.specs.declared.issue.Issue.{Issue}
use Rattle.change_history.specs.History.{History}
use Rattle.jql_bound.specs.declared.order.OrderKey.{OrderKey}
use Rattle.tracker_machine.specs.Search.{listed}
use Rattle.list_calls.proofs.Cutting.{begins_so}
use Rattle.list_calls.proofs.foremost.keep_foremost.Goals as goal

pub returns : goal.returns
returns c =
    let f : Bor Issue → History = λ i. i.now.history in
    let m = c.args.state.now.machine in
    let sorted : List OrderKey → List History → List History = λ keys hs. take c.args.wanted (listed m.setup keys m.order hs) in
    begins_so (λ (keys : List OrderKey). sorted keys (map f c.keep_by_key.new.issues.items) ≡ sorted keys (map f c.args.issues.now.items)) c.in-Some.key.now c.in_ok-keep_by_key.ensures c.args.keys.now
    (sym c.first.ensures.value ∙ ap option_copied c.in-Some.is)
