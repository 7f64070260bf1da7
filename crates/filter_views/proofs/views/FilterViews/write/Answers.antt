use Rattle.std.proofs.Common.{◌≡◌, ◌∙◌, sym, subst, length, vec_len, rules, arith}
use Rattle.std.specs.Vec.{with_items}
use Rattle.std.proofs.lemmas.List.{with_items_is}
use Rattle.filter_views.specs.Fields.{AllFit}
use Rattle.filter_views.proofs.Seen.{length_sized}
use Rattle.filter_views.proofs.Grid.{grid_of}
use Rattle.filter_views.proofs.Calls.{settles, has_truth, has_cell, has_room}
use Rattle.filter_views.proofs.views.FilterViews.write.Goals as goal

pub write_cell-requires-clause-truth : goal.write_cell-requires-clause-truth
write_cell-requires-clause-truth c =
    let s = c.self.inside in
    let there = rw (sym c.self.view_is) at c.requires.filter in
    let number = rw (sym c.self.view_is) at c.requires.issue in
    rw c.deref_mut.ensures.value (has_truth s.rows.items s.spare.items s.heap.items _ _ _ _ c.self.invariant c.args.filter.0 c.args.issue.0 there number)

pub write_cell-requires-clause-there : goal.write_cell-requires-clause-there
write_cell-requires-clause-there c =
    let s = c.self.inside in
    let there = rw (sym c.self.view_is) at c.requires.filter in
    let number = rw (sym c.self.view_is) at c.requires.issue in
    rw c.deref_mut.ensures.value (has_cell s.rows.items s.spare.items s.heap.items _ _ _ _ c.self.invariant c.args.filter.0 c.args.issue.0 there number)

pub write_cell-requires-clause-room : goal.write_cell-requires-clause-room
write_cell-requires-clause-room c =
    let s = c.self.inside in
    let there = rw (sym c.self.view_is) at c.requires.filter in
    let number = rw (sym c.self.view_is) at c.requires.issue in
    let cell = has_cell s.rows.items s.spare.items s.heap.items _ _ _ _ c.self.invariant c.args.filter.0 c.args.issue.0 there number in
    let len : length s.heap.items ≡ vec_len s.heap = search rules in
    rw c.deref_mut.ensures.value (λ free. let h = has_room s.rows.items s.spare.items s.heap.items _ _ _ _ c.self.invariant c.args.filter.0 c.args.issue.0 cell (omega (arith, len, free)) in omega (arith, h, len))

pub returns-clause-settled : goal.returns-clause-settled
returns-clause-settled c =
    let s = c.self.inside in
    let w = rw c.deref_mut.ensures.value at c.write_cell.ensures.written in
    let size : length c.write_cell.new.rows ≡ vec_len s.rows = length_sized _ _ w.same ∙ (search rules) in
    let whole : (with_items s.rows c.write_cell.new.rows).items ≡ c.write_cell.new.rows = with_items_is s.rows c.write_cell.new.rows size in
    rw (← c.self.view_is) (rw whole (settles s.rows.items s.spare.items s.heap.items _ _ _ _ c.self.invariant c.write_cell.new.rows c.write_cell.new.heap.items c.args.filter.0 c.args.issue.0 c.args.holds c.args.end w))

pub returns-clause-grid : goal.returns-clause-grid
returns-clause-grid c =
    let s = c.self.inside in
    let w = rw c.deref_mut.ensures.value at c.write_cell.ensures.written in
    let size : length c.write_cell.new.rows ≡ vec_len s.rows = length_sized _ _ w.same ∙ (search rules) in
    let whole : (with_items s.rows c.write_cell.new.rows).items ≡ c.write_cell.new.rows = with_items_is s.rows c.write_cell.new.rows size in
    rw whole (grid_of c.write_cell.new.rows s.spare.items c.write_cell.new.heap.items s.issues s.room w.agree.rising (subst (AllFit s.issues s.room) (sym w.same) c.self.invariant.fit))
