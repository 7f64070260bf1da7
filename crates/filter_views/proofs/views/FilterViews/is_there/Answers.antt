use Rattle.std.proofs.Common.{sym}
use Rattle.filter_views.proofs.Lookups.{none_in_list}
use Rattle.filter_views.proofs.Filters.{there_at, not_there}
use Rattle.filter_views.proofs.views.FilterViews.is_there.Goals as goal

pub returns-in-Ok : goal.returns-in-Ok
returns-in-Ok c =
    let s = c.self.inside in
    let at = rw c.deref.ensures.value at c.in-Ok.ensures.found in
    rw (← c.self.view_is) (sym (there_at s.heap.items s.rows.items c.args.filter.0 c.in-Ok.field-0 at))

pub returns-in-Err : goal.returns-in-Err
returns-in-Err c =
    let s = c.self.inside in
    let gap = rw c.deref.ensures.value at c.in-Err.ensures.absent in
    rw (← c.self.view_is) (sym (not_there s.heap.items s.rows.items c.args.filter.0 (none_in_list s.rows.items c.args.filter.0 c.in-Err.field-0 gap)))
