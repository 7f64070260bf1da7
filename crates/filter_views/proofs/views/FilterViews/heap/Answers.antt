use Rattle.std.proofs.Common.{sym, ap}
use Rattle.filter_views.proofs.Seen.{heap_of}
use Rattle.filter_views.proofs.views.FilterViews.heap.Goals as goal

pub returns : goal.returns
returns c =
    let kept = c.self.invariant in
    rw c.deref.ensures.value (heap_of c.self.inside.rows.items c.self.inside.heap.items _ _ c.args.self.now (ap (λ v. v.table) (sym c.self.view_is)) kept.fit kept.agree kept.heap)
