use Rattle.std.proofs.Common.{sym, ap, subst, arith}
use Rattle.filter_views.specs.Grid.{AreMembers}
use Rattle.filter_views.proofs.Seen.{members_seen, few_truths}
use Rattle.filter_views.proofs.Grid.{grid_of}
use Rattle.filter_views.proofs.Members.{members_hold}
use Rattle.filter_views.proofs.views.FilterViews.members.Goals as goal

pub members_in-requires-clause-few : goal.members_in-requires-clause-few
members_in-requires-clause-few c =
    let kept = c.self.invariant in
    let few = few_truths _ _ c.self.inside.rows.items c.args.filter.0 kept.fit in
    rw c.deref.ensures.value (omega (arith, few, kept.few))

pub members_in-requires-clause-slots : goal.members_in-requires-clause-slots
members_in-requires-clause-slots c =
    let kept = c.self.invariant in
    let few = few_truths _ _ c.self.inside.rows.items c.args.filter.0 kept.fit in
    let room = c.in_ok-reserve.ensures.ok in
    rw c.deref.ensures.value (omega (arith, few, room))

pub returns-clause-members : goal.returns-clause-members
returns-clause-members c =
    let kept = c.self.invariant in
    let are = members_seen c.self.inside.rows.items c.self.inside.heap.items _ _ c.args.self.now (ap (λ v. v.table) (sym c.self.view_is)) kept.fit c.args.filter.0 in
    rw (c.deref.ensures.value, c.clear.ensures.items, are) at c.members_in.ensures

pub returns-clause-each : goal.returns-clause-each
returns-clause-each c =
    let kept = c.self.invariant in
    let are = members_seen c.self.inside.rows.items c.self.inside.heap.items _ _ c.args.self.now (ap (λ v. v.table) (sym c.self.view_is)) kept.fit c.args.filter.0 in
    let told = rw (c.deref.ensures.value, c.clear.ensures.items, are) at c.members_in.ensures in
    subst (AreMembers c.args.self.now c.args.filter.0) (sym told) (members_hold c.args.self.now c.args.filter.0)

pub returns-clause-grid : goal.returns-clause-grid
returns-clause-grid c =
    let s = c.self.inside in
    rw (← c.self.view_is) (grid_of s.rows.items s.spare.items s.heap.items s.issues s.room c.self.invariant.agree.rising c.self.invariant.fit)

pub returns-in_err-reserve-clause-grid : goal.returns-in_err-reserve-clause-grid
returns-in_err-reserve-clause-grid c =
    let s = c.self.inside in
    rw (← c.self.view_is) (grid_of s.rows.items s.spare.items s.heap.items s.issues s.room c.self.invariant.agree.rising c.self.invariant.fit)
