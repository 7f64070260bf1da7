use Rattle.std.proofs.Common.{◌≡◌, ℕ, ◌+◌, List, length, map, take, ap, sym, ◌∙◌, Bor}
use Rattle.change_history.specs.declared.issue.Issue.{Issue}
use Rattle.change_history.specs.History.{History}
use Rattle.tracker_machine.specs.Search.{listed}
use Rattle.list_calls.proofs.Parted.{part_of-map, part_of_first}
use Rattle.list_calls.proofs.search.ordered.Goals as goal

pub returns-clause-issues : goal.returns-clause-issues
returns-clause-issues g c =
    let f : Bor Issue → History = λ i. i.now.history in
    let part = c.args.part in
    let m = c.args.state.now.machine in
    let sorted = listed m.setup c.args.bound.now.order.keys m.order in
    let end = part.from + part.count in
    let first = ap (λ (n : ℕ). take n (map f c.put_in_order.new.issues.items)) (sym c.end_of.ensures) ∙ c.in_ok-put_in_order.ensures
    ∙ ap (λ (n : ℕ). take n (sorted (map f c.in_ok-issues.issues.items))) c.end_of.ensures ∙ ap (λ (hs : List History). take end (sorted hs)) c.in_ok-issues.ensures.found in
    sym (part_of-map f part c.put_in_order.new.issues.items) ∙ part_of_first part (map f c.put_in_order.new.issues.items) _ first

pub returns-clause-total : goal.returns-clause-total
returns-clause-total g c =
    let f : Bor Issue → History = λ i. i.now.history in
    c.count_of-total.ensures ∙ ap (λ is. length (map f is)) c.deref.ensures.value ∙ ap length c.in_ok-issues.ensures.found
