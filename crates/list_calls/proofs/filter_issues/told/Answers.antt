use Rattle.std.proofs.Common.{◌≡◌, ℕ, ◌+◌, List, length, map, take, ap, sym, ◌∙◌, Bor}
use Rattle.change_history.specs.declared.issue.Issue.{Issue}
use Rattle.change_history.specs.History.{History}
use Rattle.tracker_calls.specs.Part.{part_of}
use Rattle.tracker_calls.specs.declared.reply.Answer.TheVariants as answer
use Rattle.tracker_filters.specs.declared.filter.Filter.{Filter}
use Rattle.tracker_machine.specs.Query.{Query}
use Rattle.tracker_machine.specs.Filters.{shown}
use Rattle.tracker_machine.specs.Search.{listed}
use Rattle.tracker_state.specs.State.{saved_as}
use Rattle.list_calls.proofs.Parted.{keys_of_part, part_of_first}
use Rattle.list_calls.proofs.Shown.{bound_at, query_is}
use Rattle.list_calls.proofs.filter_issues.told.Goals as goal

both : (ks ls : List (List ℕ)) (n m : ℕ) → ks ≡ ls → n ≡ m → answer.Filter ks n ≡ answer.Filter ls m
both ks ls n m e f = ap (λ v. answer.Filter v n) e ∙ ap (answer.Filter ls) f

pub returns : goal.returns
returns c =
    let history : Bor Issue → History = λ i. i.now.history in
    let m = c.args.state.now.machine in
    let f : Filter = c.args.filter.now in
    let part = c.args.part in
    let found = shown m c.args.caller.0 (saved_as f) in
    let query = query_is m.setup f (bound_at m.setup f.no.0 f c.args.state.now.watched.filters c.have_seen.ensures.bound c.requires) in
    let sorted = listed m.setup f.query.order.keys m.order in
    let end = part.from + part.count in
    let first = ap (λ (n : ℕ). take n (map history c.put_in_order.new.issues.items)) (sym c.end_of.ensures) ∙ c.in_ok-put_in_order.ensures
    ∙ ap (λ (n : ℕ). take n (sorted (map history c.in_ok-issues.issues.items))) c.end_of.ensures ∙ ap (λ (hs : List History). take end (sorted hs)) c.in_ok-issues.ensures
    ∙ ap (λ (q : Query). take end (listed m.setup q.keys m.order found)) (sym query) in
    let keys = c.in_ok-issues-2.ensures ∙ ap (map (λ (i : Bor Issue). i.now.history.key)) (c.part_of.ensures ∙ ap (part_of part) c.deref-2.ensures.value) ∙ keys_of_part history part c.put_in_order.new.issues.items
    ∙ ap (map (λ (h : History). h.key)) (part_of_first part (map history c.put_in_order.new.issues.items) _ first) in
    let total = c.count_of-total.ensures ∙ ap (λ is. length (map history is)) c.deref.ensures.value ∙ ap length c.in_ok-issues.ensures in
    both _ _ _ _ keys total
