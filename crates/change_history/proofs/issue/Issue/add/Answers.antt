use Rattle.std.proofs.Common.{◌≡◌, ◌+◌, ◌≤◌, arith, subst, sym, ap, List, ◌++◌, length, ◌∙◌}
use Rattle.change_history.specs.History.{RoomyHistory, IsHistory, MayAdd, last_moment, present}
use Rattle.change_history.specs.contracts.issue.Issue.{the_view}
use Rattle.change_history.specs.declared.entry.Entry.{Entry}
use Rattle.change_history.specs.declared.entry.Group.{Group}
use Rattle.change_history.proofs.Adding.{IsHistory-add, last_moment-group}
use Rattle.change_history.proofs.Befores.{spots-add, befores-add}
use Rattle.change_history.proofs.Smalls.{small-add}
use Rattle.change_history.specs.Small.{AreSmall}
use Rattle.change_history.specs.Kept.{spots_of}
use Rattle.change_history.proofs.issue.Issue.add.Goals as goal

pub invariant_of-self : goal.invariant_of-self
invariant_of-self c =
    let before = c.self.invariant in
    let group = c.args.group in
    let old = (the_view c.self.inside).history in
    let entries = c.self.inside.entries.items in
    let may = subst (λ (k : RoomyHistory). MayAdd k.history group.change group.at group.author group.entries) (sym c.self.view_is) c.requires.group in
    let may_own = subst (λ (es : List Entry). MayAdd old group.change group.at group.author es) (sym (ap (λ (g : Group). g.entries) c.group.view_is)) may in
    let room = subst (λ (k : RoomyHistory). length group.entries ≤ k.room) (sym c.self.view_is) c.requires.room in
    let count : c.len-2.result + 1 ≡ length entries + 1 = omega (arith, c.len-2.ensures) in
    let all = c.append_all.ensures.items in
    let all_lent = all ∙ ap (λ (es : List Entry). entries ++ es) (sym c.deref.ensures.value) in
    record {
      empty_is = before.empty_is;
      updated_is = ap (λ (g : Group). g.at) c.group.view_is ∙ sym (last_moment-group _ _ _ _ c.self.inside.at _ entries _ may_own.some may_own.group)
          ∙ ap (λ (es : List Entry). last_moment c.self.inside.at es) (sym all);
      befores_are = befores-add (c.len-2.result + 1) entries c.deref.result.now _ (spots_of c.self.inside) c.self.inside.befores.items _ count all_lent
          c.put_befores.ensures.befores_items before.spots_are before.befores_are;
      spots_are = spots-add (c.len-2.result + 1) entries c.deref.result.now _ (spots_of c.self.inside) _ count all_lent c.put_befores.ensures.spots before.spots_are;
      small_are = subst (λ (es : List Entry). AreSmall (present (record old { entries = es })) c.put_small.new.small)
          (sym (all ∙ ap (λ (es : List Entry). entries ++ es) (sym c.deref-2.ensures.value)))
          (subst (AreSmall (present (record old { entries = entries ++ c.deref-2.result.now }))) (sym c.put_small.ensures)
          (small-add old c.self.inside.small c.deref-2.result.now before.small_are));
      entries_fit = omega (arith, before.entries_fit, c.append_all.ensures.len, c.append_all.ensures.capacity, c.len.ensures);
      others_fit = omega (arith, before.others_fit, c.put_befores.ensures.len, c.put_befores.ensures.capacity, c.deref.ensures.len, c.len.ensures);
      befores_fit = omega (arith, before.befores_fit, c.put_befores.ensures.befores_len, c.put_befores.ensures.befores_capacity, c.deref.ensures.len, c.len.ensures);
      few = omega (arith, before.few, c.append_all.ensures.len, c.len.ensures, room, ap (λ (g : Group). length g.entries) c.group.view_is);
      history = subst (λ (es : List Entry). IsHistory (record old { entries = es })) (sym all)
          (IsHistory-add old group.change group.at group.author _ before.history may_own);
    }
