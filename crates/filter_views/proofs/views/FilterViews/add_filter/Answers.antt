use Rattle.std.proofs.Common.{◌∙◌, sym}
use Rattle.std.proofs.lemmas.Bool.{false≢true}
use Rattle.filter_views.proofs.Filters.{there_at, kept_added, adds_filter}
use Rattle.filter_views.proofs.views.FilterViews.add_filter.Goals as goal

pub returns-in_default : goal.returns-in_default
returns-in_default c =
    let s = c.self.inside in
    let fresh = rw (sym c.self.view_is) at c.requires.fresh in
    let at = rw c.deref.ensures.value at c.in_default.ensures.found in
    absurd (false≢true (sym fresh ∙ there_at s.heap.items s.rows.items c.args.filter.0 c.in_default.field-0 at))

pub invariant_of-self-2 : goal.invariant_of-self-2
invariant_of-self-2 c =
    let s = c.self.inside in
    let gap = rw c.deref.ensures.value at c.in-Err.ensures.absent in
    rw c.insert_row.ensures.items
    (kept_added s.rows.items s.spare.items c.pop.new.self.items s.heap.items _ _ _ _ c.self.invariant c.args.filter.0 c.in-Err.at gap c.in-Some.row c.give_to.new.self c.give_to.ensures c.in-Some.ensures.items
    _ c.insert_row.ensures.capacity)

pub returns : goal.returns
returns c =
    let s = c.self.inside in
    let gap = rw c.deref.ensures.value at c.in-Err.ensures.absent in
    rw (← c.self.view_is) (rw c.insert_row.ensures.items
    (adds_filter s.rows.items s.spare.items c.pop.new.self.items s.heap.items _ _ _ _ c.self.invariant c.args.filter.0 c.in-Err.at gap c.in-Some.row c.give_to.new.self c.give_to.ensures c.in-Some.ensures.items))
