use Rattle.std.proofs.Common.{◌<◌, ◌≡◌, ◌∙◌, length, vec_len, rules, arith}
use Rattle.std.specs.Vec.{with_items}
use Rattle.std.proofs.lemmas.List.{with_items_is}
use Rattle.filter_views.specs.FilterRow.{place_in}
use Rattle.filter_views.proofs.Writes.{but_taken, taken_then_mended, taken_last}
use Rattle.filter_views.proofs.ends.take_end.Goals as goal

pub mend-requires-clause-but : goal.mend-requires-clause-but
mend-requires-clause-but c =
    let ds = c.args.heap.now.items in
    let len : length ds ≡ vec_len c.args.heap.now = search rules in
    let size = c.move_to_end.ensures.same.size in
    let whole : (with_items c.args.heap.now c.move_to_end.new.heap).items ≡ c.move_to_end.new.heap = with_items_is c.args.heap.now c.move_to_end.new.heap (size ∙ c.deref_mut.ensures.len) in
    let moved = rw (c.deref_mut.ensures.value, c.place_in-place.ensures) at c.move_to_end.ensures.moved in
    let moves = rw c.deref_mut.ensures.value at c.move_to_end.ensures.same in
    let drops = rw whole at c.drop_last.ensures.dropped in
    let lt : place_in c.args.rows.now c.args.filter.0 c.args.issue.0 < length ds = omega (arith, c.if-place-len.false, c.len.ensures, c.place_in-place.ensures, len) in
    rw (c.deref_mut-then-place-len-2.ensures.value, c.place_in-place.ensures)
    (but_taken ds c.move_to_end.new.heap c.drop_last.new.heap.items c.args.rows.now c.move_to_end.new.rows c.drop_last.new.rows c.args.filter.0 c.args.issue.0 c.requires.agree lt moved moves drops c.requires.heap)

pub returns-then-place-len-2-clause-put : goal.returns-then-place-len-2-clause-put
returns-then-place-len-2-clause-put c =
    let ds = c.args.heap.now.items in
    let len : length ds ≡ vec_len c.args.heap.now = search rules in
    let size = c.move_to_end.ensures.same.size in
    let whole : (with_items c.args.heap.now c.move_to_end.new.heap).items ≡ c.move_to_end.new.heap = with_items_is c.args.heap.now c.move_to_end.new.heap (size ∙ c.deref_mut.ensures.len) in
    let moved = rw (c.deref_mut.ensures.value, c.place_in-place.ensures) at c.move_to_end.ensures.moved in
    let moves = rw c.deref_mut.ensures.value at c.move_to_end.ensures.same in
    let drops = rw whole at c.drop_last.ensures.dropped in
    let lt : place_in c.args.rows.now c.args.filter.0 c.args.issue.0 < length ds = omega (arith, c.if-place-len.false, c.len.ensures, c.place_in-place.ensures, len) in
    let mends = rw c.deref_mut-then-place-len-2.ensures.value at c.mend.ensures.same in
    let again : (with_items c.drop_last.new.heap c.mend.new.heap).items ≡ c.mend.new.heap = with_items_is c.drop_last.new.heap c.mend.new.heap (c.mend.ensures.same.size ∙ c.deref_mut-then-place-len-2.ensures.len) in
    rw again
    (taken_then_mended ds c.move_to_end.new.heap c.drop_last.new.heap.items c.args.rows.now c.move_to_end.new.rows c.drop_last.new.rows c.args.filter.0 c.args.issue.0 c.requires.agree lt moved moves drops
    c.mend.new.heap c.mend.new.rows c.mend.ensures.agree c.mend.ensures.heap mends)

pub returns-else-place-len-2-clause-put : goal.returns-else-place-len-2-clause-put
returns-else-place-len-2-clause-put c =
    let ds = c.args.heap.now.items in
    let len : length ds ≡ vec_len c.args.heap.now = search rules in
    let size = c.move_to_end.ensures.same.size in
    let whole : (with_items c.args.heap.now c.move_to_end.new.heap).items ≡ c.move_to_end.new.heap = with_items_is c.args.heap.now c.move_to_end.new.heap (size ∙ c.deref_mut.ensures.len) in
    let moved = rw (c.deref_mut.ensures.value, c.place_in-place.ensures) at c.move_to_end.ensures.moved in
    let moves = rw c.deref_mut.ensures.value at c.move_to_end.ensures.same in
    let drops = rw whole at c.drop_last.ensures.dropped in
    let lt : place_in c.args.rows.now c.args.filter.0 c.args.issue.0 < length ds = omega (arith, c.if-place-len.false, c.len.ensures, c.place_in-place.ensures, len) in
    let left : length c.drop_last.new.heap.items ≡ vec_len c.drop_last.new.heap = search rules in
    taken_last ds c.move_to_end.new.heap c.drop_last.new.heap.items c.args.rows.now c.move_to_end.new.rows c.drop_last.new.rows c.args.filter.0 c.args.issue.0 c.requires.agree lt moved moves drops c.requires.heap
    (omega (arith, left, c.if-place-len-2.false, c.len-2.ensures, c.place_in-place.ensures))
