use Rattle.std.proofs.Common.{◌≡◌, ◌∙◌, sym, length, vec_len, rules, arith}
use Rattle.std.specs.Vec.{with_items}
use Rattle.std.proofs.lemmas.List.{with_items_is}
use Rattle.filter_views.proofs.Seen.{length_sized, sizes_framed}
use Rattle.filter_views.proofs.Filters.{kept_removed, removes_filter, never_missing}
use Rattle.filter_views.proofs.views.FilterViews.remove_filter.Goals as goal

pub invariant_of-self : goal.invariant_of-self
invariant_of-self c =
    let s = c.self.inside in
    let taken = rw c.deref_mut.ensures.value at c.take_ends.ensures.taken in
    let size : length c.take_ends.new.rows ≡ vec_len s.rows = length_sized _ _ (sizes_framed _ _ taken.same) ∙ (search rules) in
    let whole : (with_items s.rows c.take_ends.new.rows).items ≡ c.take_ends.new.rows = with_items_is s.rows c.take_ends.new.rows size in
    let at = rw (c.deref.ensures.value, whole) at c.in-Ok.ensures.found in
    rw (c.remove-row.ensures.items, whole) (kept_removed s.rows.items s.spare.items s.heap.items _ _ _ _ c.self.invariant c.args.filter.0 c.in-Ok.at c.take_ends.new.rows c.take_ends.new.heap.items taken at _ _ (omega (arith, c.remove-row.ensures.capacity)) (omega (arith, c.take_ends.ensures.capacity)))

pub invariant_of-self-in_default : goal.invariant_of-self-in_default
invariant_of-self-in_default c =
    let s = c.self.inside in
    let there = rw (sym c.self.view_is) at c.requires in
    let taken = rw c.deref_mut.ensures.value at c.take_ends.ensures.taken in
    let size : length c.take_ends.new.rows ≡ vec_len s.rows = length_sized _ _ (sizes_framed _ _ taken.same) ∙ (search rules) in
    let whole : (with_items s.rows c.take_ends.new.rows).items ≡ c.take_ends.new.rows = with_items_is s.rows c.take_ends.new.rows size in
    let gap = rw (c.deref.ensures.value, whole) at c.in_default.ensures.absent in
    absurd (never_missing s.rows.items c.take_ends.new.rows s.heap.items s.heap.items c.args.filter.0 c.in_default.field-0 taken.same gap there)

pub returns-in-Ok : goal.returns-in-Ok
returns-in-Ok c =
    let s = c.self.inside in
    let taken = rw c.deref_mut.ensures.value at c.take_ends.ensures.taken in
    let size : length c.take_ends.new.rows ≡ vec_len s.rows = length_sized _ _ (sizes_framed _ _ taken.same) ∙ (search rules) in
    let whole : (with_items s.rows c.take_ends.new.rows).items ≡ c.take_ends.new.rows = with_items_is s.rows c.take_ends.new.rows size in
    let at = rw (c.deref.ensures.value, whole) at c.in-Ok.ensures.found in
    rw (← c.self.view_is) (rw (c.remove-row.ensures.items, whole) (removes_filter s.rows.items s.spare.items s.heap.items _ _ _ _ c.self.invariant c.args.filter.0 c.in-Ok.at c.take_ends.new.rows c.take_ends.new.heap.items taken at))

pub returns-in_default : goal.returns-in_default
returns-in_default c =
    let s = c.self.inside in
    let there = rw (sym c.self.view_is) at c.requires in
    let taken = rw c.deref_mut.ensures.value at c.take_ends.ensures.taken in
    let size : length c.take_ends.new.rows ≡ vec_len s.rows = length_sized _ _ (sizes_framed _ _ taken.same) ∙ (search rules) in
    let whole : (with_items s.rows c.take_ends.new.rows).items ≡ c.take_ends.new.rows = with_items_is s.rows c.take_ends.new.rows size in
    let gap = rw (c.deref.ensures.value, whole) at c.in_default.ensures.absent in
    absurd (never_missing s.rows.items c.take_ends.new.rows s.heap.items s.heap.items c.args.filter.0 c.in_default.field-0 taken.same gap there)
