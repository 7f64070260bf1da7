use Rattle.std.proofs.Common.{◌∙◌, sym, ap, arith}
use Rattle.filter_views.proofs.Seen.{seen}
use Rattle.filter_views.proofs.views.FilterViews.holds.Goals as goal

pub returns : goal.returns
returns c =
    let kept = c.self.invariant in
    let is = seen c.self.inside.rows.items c.self.inside.heap.items _ _ c.args.self.now (ap (λ v. v.table) (sym c.self.view_is)) kept.fit (omega (arith, kept.agree.few)) c.args.filter.0 c.args.issue.0 in
    rw c.deref.ensures.value at c.holds_in.ensures ∙ ap (λ x. x.holds) (sym is)
