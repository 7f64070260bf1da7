use Rattle.std.proofs.Common.{◌≡◌, ◌∙◌, ◌+◌, ◌*◌, ◌≤◌, subst, length, vec_len, vec_capacity, rules, arith}
use Rattle.std.specs.Vec.{with_items}
use Rattle.std.proofs.lemmas.List.{with_items_is}
use Rattle.filter_views.proofs.AllRows.{widen_none, length_widen}
use Rattle.filter_views.proofs.Calls.{kept_widen, kept_room, views_widen, on_err}
use Rattle.filter_views.proofs.views.FilterViews.reserve_issue.Goals as goal

pub invariant_of-self : goal.invariant_of-self
invariant_of-self c =
    let s = c.self.inside in
    let w = rw c.deref_mut.ensures.value at c.in_err-widen.ensures.same in
    let whole : (with_items s.rows c.widen.new.rows).items ≡ c.widen.new.rows = with_items_is s.rows c.widen.new.rows (length_widen _ _ w ∙ (search rules)) in
    rw whole (kept_widen s.rows.items s.spare.items s.heap.items _ _ _ _ c.self.invariant c.widen.new.rows s.spare.items w (widen_none s.spare.items) _ (omega arith))

pub returns-in_err-widen-clause-err : goal.returns-in_err-widen-clause-err
returns-in_err-widen-clause-err c =
    let s = c.self.inside in
    let w = rw c.deref_mut.ensures.value at c.in_err-widen.ensures.same in
    let whole : (with_items s.rows c.widen.new.rows).items ≡ c.widen.new.rows = with_items_is s.rows c.widen.new.rows (length_widen _ _ w ∙ (search rules)) in
    on_err c.from_residual.result (rw whole (views_widen s.rows.items s.spare.items s.heap.items _ _ _ _ c.self.invariant c.widen.new.rows s.spare.items w (widen_none s.spare.items) s.room ∙ c.self.view_is))

pub invariant_of-self-in_err-widen-2 : goal.invariant_of-self-in_err-widen-2
invariant_of-self-in_err-widen-2 c =
    let s = c.self.inside in
    let w = rw c.deref_mut.ensures.value at c.in_ok-widen.ensures.same in
    let whole : (with_items s.rows c.widen.new.rows).items ≡ c.widen.new.rows = with_items_is s.rows c.widen.new.rows (length_widen _ _ w ∙ (search rules)) in
    let u = rw c.deref_mut-2.ensures.value at c.in_err-widen-2.ensures.same in
    let other : (with_items s.spare c.widen-2.new.rows).items ≡ c.widen-2.new.rows = with_items_is s.spare c.widen-2.new.rows (length_widen _ _ u ∙ (search rules)) in
    rw (whole, other) (kept_widen s.rows.items s.spare.items s.heap.items _ _ _ _ c.self.invariant c.widen.new.rows c.widen-2.new.rows w u _ (omega arith))

pub returns-in_err-widen-2-clause-err : goal.returns-in_err-widen-2-clause-err
returns-in_err-widen-2-clause-err c =
    let s = c.self.inside in
    let w = rw c.deref_mut.ensures.value at c.in_ok-widen.ensures.same in
    let whole : (with_items s.rows c.widen.new.rows).items ≡ c.widen.new.rows = with_items_is s.rows c.widen.new.rows (length_widen _ _ w ∙ (search rules)) in
    let u = rw c.deref_mut-2.ensures.value at c.in_err-widen-2.ensures.same in
    let other : (with_items s.spare c.widen-2.new.rows).items ≡ c.widen-2.new.rows = with_items_is s.spare c.widen-2.new.rows (length_widen _ _ u ∙ (search rules)) in
    on_err c.from_residual-in_err-widen-2.result (rw (whole, other) (views_widen s.rows.items s.spare.items s.heap.items _ _ _ _ c.self.invariant c.widen.new.rows c.widen-2.new.rows w u s.room ∙ c.self.view_is))

pub invariant_of-self-in_err-reserve_ends : goal.invariant_of-self-in_err-reserve_ends
invariant_of-self-in_err-reserve_ends c =
    let s = c.self.inside in
    let w = rw c.deref_mut.ensures.value at c.in_ok-widen.ensures.same in
    let whole : (with_items s.rows c.widen.new.rows).items ≡ c.widen.new.rows = with_items_is s.rows c.widen.new.rows (length_widen _ _ w ∙ (search rules)) in
    let u = rw c.deref_mut-2.ensures.value at c.in_ok-widen-2.ensures.same in
    let other : (with_items s.spare c.widen-2.new.rows).items ≡ c.widen-2.new.rows = with_items_is s.spare c.widen-2.new.rows (length_widen _ _ u ∙ (search rules)) in
    rw (whole, other, c.in_err-reserve_ends.ensures.same) (kept_widen s.rows.items s.spare.items s.heap.items _ _ _ _ c.self.invariant c.widen.new.rows c.widen-2.new.rows w u _ c.in_err-reserve_ends.ensures.more)

pub returns-in_err-reserve_ends-clause-err : goal.returns-in_err-reserve_ends-clause-err
returns-in_err-reserve_ends-clause-err c =
    let s = c.self.inside in
    let w = rw c.deref_mut.ensures.value at c.in_ok-widen.ensures.same in
    let whole : (with_items s.rows c.widen.new.rows).items ≡ c.widen.new.rows = with_items_is s.rows c.widen.new.rows (length_widen _ _ w ∙ (search rules)) in
    let u = rw c.deref_mut-2.ensures.value at c.in_ok-widen-2.ensures.same in
    let other : (with_items s.spare c.widen-2.new.rows).items ≡ c.widen-2.new.rows = with_items_is s.spare c.widen-2.new.rows (length_widen _ _ u ∙ (search rules)) in
    on_err c.from_residual-in_err-reserve_ends.result (rw (whole, other, c.in_err-reserve_ends.ensures.same) (views_widen s.rows.items s.spare.items s.heap.items _ _ _ _ c.self.invariant c.widen.new.rows c.widen-2.new.rows w u s.room ∙ c.self.view_is))

pub invariant_of-self-2 : goal.invariant_of-self-2
invariant_of-self-2 c =
    let s = c.self.inside in
    let w = rw c.deref_mut.ensures.value at c.in_ok-widen.ensures.same in
    let whole : (with_items s.rows c.widen.new.rows).items ≡ c.widen.new.rows = with_items_is s.rows c.widen.new.rows (length_widen _ _ w ∙ (search rules)) in
    let u = rw c.deref_mut-2.ensures.value at c.in_ok-widen-2.ensures.same in
    let other : (with_items s.spare c.widen-2.new.rows).items ≡ c.widen-2.new.rows = with_items_is s.spare c.widen-2.new.rows (length_widen _ _ u ∙ (search rules)) in
    let a : length s.rows.items ≡ vec_len s.rows = search rules in
    let b : length s.spare.items ≡ vec_len s.spare = search rules in
    let m = length_widen _ _ w in
    let n = length_widen _ _ u in
    rw (whole, other, c.in_ok-reserve_ends.ensures.same) (kept_room s.rows.items s.spare.items s.heap.items _ _ _ _ c.self.invariant c.widen.new.rows c.widen-2.new.rows w u _ _ (omega arith) c.in_ok-widen.ensures.room c.in_ok-widen-2.ensures.room
    (subst (λ n. n * (s.issues + 1) ≤ vec_capacity c.reserve_ends.new.heap) {x = c.len.result + c.len-2.result} (omega (arith, c.len.ensures, c.len-2.ensures, a, b, m, n)) c.in_ok-reserve_ends.ensures.room))

pub returns-clause-same : goal.returns-clause-same
returns-clause-same c =
    let s = c.self.inside in
    let w = rw c.deref_mut.ensures.value at c.in_ok-widen.ensures.same in
    let whole : (with_items s.rows c.widen.new.rows).items ≡ c.widen.new.rows = with_items_is s.rows c.widen.new.rows (length_widen _ _ w ∙ (search rules)) in
    let u = rw c.deref_mut-2.ensures.value at c.in_ok-widen-2.ensures.same in
    let other : (with_items s.spare c.widen-2.new.rows).items ≡ c.widen-2.new.rows = with_items_is s.spare c.widen-2.new.rows (length_widen _ _ u ∙ (search rules)) in
    rw (← c.self.view_is) (rw (whole, other, c.in_ok-reserve_ends.ensures.same) (views_widen s.rows.items s.spare.items s.heap.items _ _ _ _ c.self.invariant c.widen.new.rows c.widen-2.new.rows w u (s.issues + 1)))
