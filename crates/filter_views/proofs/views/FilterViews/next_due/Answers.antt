use Rattle.std.proofs.Common.{sym, ap, subst}
use Rattle.filter_views.specs.declared.due.Due.{Due}
use Rattle.filter_views.specs.Views.{IsLeastEnd}
use Rattle.filter_views.proofs.Seen.{heap_of, least_end, no_end, first_is, none_is}
use Rattle.filter_views.proofs.Grid.{grid_of}
use Rattle.filter_views.proofs.views.FilterViews.next_due.Goals as goal

pub returns-in-Some-clause-next : goal.returns-in-Some-clause-next
returns-in-Some-clause-next c =
    let kept = c.self.invariant in
    let ds = c.self.inside.heap.items in
    let h = heap_of c.self.inside.rows.items ds _ _ c.args.self.now (ap (λ v. v.table) (sym c.self.view_is)) kept.fit kept.agree kept.heap in
    let first = first_is ds c.in-Some.due.now (rw c.deref.ensures.value at c.in-Some.ensures.value) in
    subst (λ (d : Due). IsLeastEnd c.args.self.now d) first.1 (least_end c.args.self.now ds h first.0)

pub returns-in-None-clause-next : goal.returns-in-None-clause-next
returns-in-None-clause-next c =
    let kept = c.self.invariant in
    let ds = c.self.inside.heap.items in
    let h = heap_of c.self.inside.rows.items ds _ _ c.args.self.now (ap (λ v. v.table) (sym c.self.view_is)) kept.fit kept.agree kept.heap in
    no_end c.args.self.now ds h (none_is ds (rw c.deref.ensures.value at c.in-None.ensures.value))

pub returns-in-Some-clause-grid : goal.returns-in-Some-clause-grid
returns-in-Some-clause-grid c =
    let s = c.self.inside in
    rw (← c.self.view_is) (grid_of s.rows.items s.spare.items s.heap.items s.issues s.room c.self.invariant.agree.rising c.self.invariant.fit)

pub returns-in-None-clause-grid : goal.returns-in-None-clause-grid
returns-in-None-clause-grid c =
    let s = c.self.inside in
    rw (← c.self.view_is) (grid_of s.rows.items s.spare.items s.heap.items s.issues s.room c.self.invariant.agree.rising c.self.invariant.fit)
