use Rattle.std.proofs.Common.{◌≡◌, ◌∙◌, ◌^◌, ◌<◌, map, sym, ap, length, vec_len, rules}
use Rattle.std.specs.Vec.{with_items}
use Rattle.std.proofs.lemmas.List.{with_items_is, length-map}
use Rattle.filter_views.specs.Fields.{with_issue}
use Rattle.filter_views.proofs.AllRows.{short_from_fit}
use Rattle.filter_views.proofs.Calls.{kept_longer, adds_issue}
use Rattle.filter_views.proofs.views.FilterViews.add_issue.Goals as goal

pub add_issue-requires : goal.add_issue-requires
add_issue-requires c =
    let room = rw (sym c.self.view_is) at c.requires.room in
    rw c.deref_mut.ensures.value (short_from_fit _ _ c.self.inside.rows.items room c.self.invariant.fit)

pub add_issue-requires-2 : goal.add_issue-requires-2
add_issue-requires-2 c =
    let room = rw (sym c.self.view_is) at c.requires.room in
    rw c.deref_mut-2.ensures.value (short_from_fit _ _ c.self.inside.spare.items room c.self.invariant.ready)

pub invariant_of-self : goal.invariant_of-self
invariant_of-self c =
    let s = c.self.inside in
    let room = rw (sym c.self.view_is) at c.requires.room in
    let next = rw (sym c.self.view_is) at c.requires.next in
    let first = rw c.deref_mut.ensures.value at c.add_issue.ensures in
    let second = rw c.deref_mut-2.ensures.value at c.add_issue-2.ensures in
    let a : length c.add_issue.new.rows ≡ vec_len s.rows = ap length first ∙ length-map s.rows.items with_issue ∙ (search rules) in
    let b : length c.add_issue-2.new.rows ≡ vec_len s.spare = ap length second ∙ length-map s.spare.items with_issue ∙ (search rules) in
    let whole : (with_items s.rows c.add_issue.new.rows).items ≡ map with_issue s.rows.items = with_items_is s.rows c.add_issue.new.rows a ∙ first in
    let other : (with_items s.spare c.add_issue-2.new.rows).items ≡ map with_issue s.spare.items = with_items_is s.spare c.add_issue-2.new.rows b ∙ second in
    let below : c.args.issue.0 < 2 ^ 32 = search rules in
    rw (whole, other) (kept_longer s.rows.items s.spare.items s.heap.items _ _ _ _ c.self.invariant c.args.issue.0 next below room)

pub returns : goal.returns
returns c =
    let s = c.self.inside in
    let room = rw (sym c.self.view_is) at c.requires.room in
    let next = rw (sym c.self.view_is) at c.requires.next in
    let first = rw c.deref_mut.ensures.value at c.add_issue.ensures in
    let second = rw c.deref_mut-2.ensures.value at c.add_issue-2.ensures in
    let a : length c.add_issue.new.rows ≡ vec_len s.rows = ap length first ∙ length-map s.rows.items with_issue ∙ (search rules) in
    let b : length c.add_issue-2.new.rows ≡ vec_len s.spare = ap length second ∙ length-map s.spare.items with_issue ∙ (search rules) in
    let whole : (with_items s.rows c.add_issue.new.rows).items ≡ map with_issue s.rows.items = with_items_is s.rows c.add_issue.new.rows a ∙ first in
    let other : (with_items s.spare c.add_issue-2.new.rows).items ≡ map with_issue s.spare.items = with_items_is s.spare c.add_issue-2.new.rows b ∙ second in
    rw (← c.self.view_is) (rw (whole, other) (adds_issue s.rows.items s.spare.items s.heap.items _ _ _ _ c.self.invariant c.args.issue.0 next))
