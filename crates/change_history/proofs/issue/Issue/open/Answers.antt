use Rattle.std.proofs.Common.{List, [], map, arith, refl, sym, ap, subst, ◌∙◌}
use Rattle.change_history.specs.declared.change.Change.{Change}
use Rattle.change_history.specs.declared.entry.Entry.{Entry}
use Rattle.change_history.specs.History.{last_moment, opening_value, value_after}
use Rattle.change_history.specs.Small.{AreSmall}
use Rattle.change_history.specs.Before.{befores_from}
use Rattle.change_history.proofs.Adding.{IsHistory-new}
use Rattle.change_history.specs.Places.{number}
use Rattle.change_history.proofs.Befores.{spots-new, no_bounds}
use Rattle.change_history.proofs.issue.Issue.open.Goals as goal

pub invariant_of-result : goal.invariant_of-result
invariant_of-result c = record {
  empty_is = refl;
  updated_is = ap (λ (es : List Entry). last_moment c.args.at es) (sym c.new.ensures.items);
  befores_are = c.new-2.ensures.items ∙ ap (λ (es : List Entry). map number (befores_from [] es)) (sym c.new.ensures.items);
  spots_are = spots-new _ _ c.new.ensures.items (no_bounds 14) c.new-3.ensures.items;
  small_are =
      let opened = subst (λ (cs : List Change). AreSmall (opening_value cs) c.opening_small-small.result) c.deref.ensures.value c.opening_small-small.ensures in
      subst (λ (es : List Entry). AreSmall (λ f. value_after (opening_value c.values.inside.list.items f) es f) c.opening_small-small.result)
      (sym c.new.ensures.items) opened;
  entries_fit = omega (arith, c.new.ensures.len);
  others_fit = omega (arith, c.new-3.ensures.len);
  befores_fit = omega (arith, c.new-2.ensures.len);
  few = omega (arith, c.new.ensures.len);
  history = IsHistory-new _ c.new.ensures.items;
}
