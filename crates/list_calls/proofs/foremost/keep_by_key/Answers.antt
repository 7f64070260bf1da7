use Rattle.std.proofs.Common.{◌≡◌, ◌≤◌, ◌∙◌, ◌∷◌, List, ap, sym, map, take, length, not, arith, Bool, Bor}
use Rattle.std.specs.Prelude.{filter}
use Rattle.std.proofs.lemmas.List.{length-map}
use Rattle.change_history.specs.declared.issue.Issue.{Issue}
use Rattle.change_history.specs.History.{History}
use Rattle.jql_meaning.specs.Order.{Standing}
use Rattle.jql_eval.specs.Standings.{seen}
use Rattle.tracker_machine.specs.Search.{listed}
use Rattle.list_calls.specs.declared.in_order.Placed.{Placed}
use Rattle.list_calls.specs.Sorting.{standing_by, stands_before, with_standing, told_by}
use Rattle.list_calls.proofs.Cutting.{foremost, is_foremost, left_out}
use Rattle.list_calls.proofs.Parted.{map-map}
use Rattle.list_calls.proofs.foremost.keep_by_key.Goals as goal

pub returns : goal.returns
returns c keys =
    let f : Bor Issue → History = λ i. i.now.history in
    let held : Placed → History = λ p. p.issue.now.history in
    let issue : Placed → Bor Issue = λ p. p.issue in
    let m = c.args.state.now.machine in
    let key = c.args.key in
    let cut = seen c.in-Some.cut in
    let test : Standing → Bool = λ s. not (stands_before key.direction cut s) in
    let by = standing_by m.setup m.order key.field in
    let beside = with_standing m.setup m.order key.field in
    let asked = c.args.issues.now.items in
    let all = c.in_ok-placed.placed.items in
    let left = c.keep_up_to.new.placed.items in
    let told : map told_by all ≡ map beside (map f asked) = c.in_ok-placed.ensures ∙ ap (map (λ (i : Bor Issue). beside i.now.history)) c.as_slice.ensures.value ∙ sym (map-map beside f asked) in
    let kept : map held left ≡ filter (is_foremost m.setup m.order key cut) (map f asked) = ap (map held) c.keep_up_to.ensures ∙ left_out told_by by test all (map f asked) told in
    let enough : c.args.wanted ≤ length (filter (is_foremost m.setup m.order key cut) (map f asked)) =
    omega (arith, c.if-len-wanted.false, c.len.ensures, ap length kept, length-map left held) in
    ap (λ (hs : List History). take c.args.wanted (listed m.setup (key ∷ keys) m.order hs))
    (ap (map f) (c.in_ok-take_out.ensures ∙ ap (map issue) c.as_slice-3.ensures.value) ∙ map-map f issue left ∙ kept)
    ∙ foremost m.setup m.order key cut c.args.wanted (map f asked) enough keys
