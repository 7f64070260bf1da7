use Rattle.std.proofs.Common.{◌<◌, ◌≤◌, ◌++◌, ◌∷◌, [], ◌≡◌, ◌∙◌, sym, subst, length, vec_len, rules, arith}
use Rattle.std.specs.Vec.{with_items}
use Rattle.std.proofs.lemmas.List.{with_items_is}
use Rattle.filter_views.specs.FilterRow.{no_place, place_in, PutsPlace}
use Rattle.filter_views.specs.Heap.{IsHeapBut}
use Rattle.filter_views.proofs.Writes.{agree_added, but_added, end_added, ends_added, puts_then_moves}
use Rattle.filter_views.proofs.ends.add_end.Goals as goal

pub mend-requires-clause-agree : goal.mend-requires-clause-agree
mend-requires-clause-agree c =
    let ds = c.args.heap.now.items in
    let len : length ds ≡ vec_len c.args.heap.now = search rules in
    let is : c.deref_mut.result.now ≡ ds ++ c.args.due ∷ [] = c.deref_mut.ensures.value ∙ c.push_reserved.ensures.items in
    let few : length c.deref_mut.result.now < no_place = omega (arith, c.deref_mut.type_inv.1) in
    let put = subst (λ n. PutsPlace c.args.rows.now c.set_place.new.rows c.args.due.filter.0 c.args.due.issue.0 n) (c.len-last.ensures ∙ sym len) c.set_place.ensures in
    agree_added ds c.deref_mut.result.now c.args.rows.now c.set_place.new.rows c.args.due c.requires.agree is few (omega (arith, len, c.requires.none)) put

pub mend-requires-clause-but : goal.mend-requires-clause-but
mend-requires-clause-but c =
    let ds = c.args.heap.now.items in
    let len : length ds ≡ vec_len c.args.heap.now = search rules in
    let is : c.deref_mut.result.now ≡ ds ++ c.args.due ∷ [] = c.deref_mut.ensures.value ∙ c.push_reserved.ensures.items in
    let few : length c.deref_mut.result.now < no_place = omega (arith, c.deref_mut.type_inv.1) in
    let put = subst (λ n. PutsPlace c.args.rows.now c.set_place.new.rows c.args.due.filter.0 c.args.due.issue.0 n) (c.len-last.ensures ∙ sym len) c.set_place.ensures in
    subst (λ n. IsHeapBut c.deref_mut.result.now n) (len ∙ sym c.len-last.ensures)
    (but_added ds c.deref_mut.result.now c.args.rows.now c.set_place.new.rows c.args.due c.requires.agree is few (omega (arith, len, c.requires.none)) put c.requires.heap)

pub returns-clause-put : goal.returns-clause-put
returns-clause-put c =
    let ds = c.args.heap.now.items in
    let len : length ds ≡ vec_len c.args.heap.now = search rules in
    let is : c.deref_mut.result.now ≡ ds ++ c.args.due ∷ [] = c.deref_mut.ensures.value ∙ c.push_reserved.ensures.items in
    let few : length c.deref_mut.result.now < no_place = omega (arith, c.deref_mut.type_inv.1) in
    let free : length ds ≤ place_in c.args.rows.now c.args.due.filter.0 c.args.due.issue.0 = omega (arith, len, c.requires.none) in
    let put = subst (λ n. PutsPlace c.args.rows.now c.set_place.new.rows c.args.due.filter.0 c.args.due.issue.0 n) (c.len-last.ensures ∙ sym len) c.set_place.ensures in
    let whole : (with_items c.push_reserved.new.self c.mend.new.heap).items ≡ c.mend.new.heap = with_items_is c.push_reserved.new.self c.mend.new.heap (c.mend.ensures.same.size ∙ c.deref_mut.ensures.len) in
    rw whole (puts_then_moves ds c.deref_mut.result.now c.mend.new.heap c.args.rows.now c.set_place.new.rows c.mend.new.rows _ _ _ c.mend.ensures.agree c.mend.ensures.heap put.same
    (end_added ds c.deref_mut.result.now c.args.rows.now c.set_place.new.rows c.args.due c.requires.agree is few free put)
    (ends_added ds c.deref_mut.result.now c.args.rows.now c.set_place.new.rows c.args.due c.requires.agree is few free put) c.mend.ensures.same)
