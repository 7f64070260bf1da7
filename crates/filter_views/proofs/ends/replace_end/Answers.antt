use Rattle.std.proofs.Common.{refl, ap, ◌∙◌}
use Rattle.filter_views.specs.declared.due.Due.{Due}
use Rattle.filter_views.proofs.Writes.{but_over, agree_over, end_over, ends_over, puts_then_moves, stays}
use Rattle.filter_views.proofs.ends.replace_end.Goals as goal

pub mend-requires-clause-agree : goal.mend-requires-clause-agree
mend-requires-clause-agree c = rw c.place_in-place.ensures (agree_over c.args.heap.now c.args.rows.now c.args.due c.requires.agree c.requires.there)

pub mend-requires-clause-but : goal.mend-requires-clause-but
mend-requires-clause-but c = rw c.place_in-place.ensures (but_over c.args.heap.now c.args.rows.now c.args.due c.requires.agree c.requires.there c.requires.heap)

-- it is the same, and nothing moves
pub returns-then-ends_at : goal.returns-then-ends_at
returns-then-ends_at c = stays c.args.heap.now c.args.rows.now c.args.due c.index-heap-place.result c.place_in-place.result c.requires.agree c.requires.heap c.requires.there c.place_in-place.ensures c.index-heap-place.is (ap (λ (e : Due). e.end) c.index-heap-place.is ∙ c.ends_at.ensures c.if-ends_at.true)

pub returns : goal.returns
returns c =
    let same = rw c.place_in-place.ensures at c.mend.ensures.same in
    puts_then_moves _ _ _ _ _ _ _ _ _ c.mend.ensures.agree c.mend.ensures.heap refl
    (end_over c.args.heap.now c.args.rows.now c.args.due c.requires.agree c.requires.there)
    (ends_over c.args.heap.now c.args.rows.now c.args.due c.requires.agree c.requires.there) same
