use Rattle.std.proofs.Common.{◌≡◌, ◌++◌, ◌∷◌, [], List, sym, ◌∙◌, ap, subst, append_assoc}
use Rattle.std.specs.Vec.Iter.{into_iter_items}
use Rattle.rising_numbers.specs.ByNumber.{put_by_number}
use Rattle.tracker_filters.specs.declared.filter.Filter.{Filter}
use Rattle.tracker_filters.specs.Saved.{number, AreSaved, MayPut}
use Rattle.tracker_loading.proofs.Following.{may_put_next, put_behind_all}
use Rattle.tracker_loading.proofs.filtered.asked.Goals as goal

pub put_next-requires-clause-may : goal.put_next-requires-clause-may
put_next-requires-clause-may g c =
    let before = c.loop-filter.yielded in
    let rest = into_iter_items c.next.new.self in
    let whole : before ++ c.in-Some.filter ∷ rest ≡ c.args.filters.items =
    ap (λ (xs : List Filter). c.loop-filter.yielded ++ xs) (sym c.in-Some.ensures.steps.0) ∙ c.loop-filter.invariant.rest in
    subst (λ (fs : List Filter). MayPut fs c.in-Some.filter) (sym c.loop-filter.invariant.put)
    (may_put_next before c.in-Some.filter rest (subst AreSaved (sym whole) c.requires.saved))

pub loop-filter-preserved : goal.loop-filter-preserved
loop-filter-preserved g c =
    let before = c.loop-filter.yielded in
    let rest = into_iter_items c.next.new.self in
    let whole : before ++ c.in-Some.filter ∷ rest ≡ c.args.filters.items =
    ap (λ (xs : List Filter). c.loop-filter.yielded ++ xs) (sym c.in-Some.ensures.steps.0) ∙ c.loop-filter.invariant.rest in
    record {
      can = tt;
      finite = tt;
      rest = append_assoc before (c.in-Some.filter ∷ []) rest ∙ whole;
      put = c.in_ok-put_next.ensures.filters ∙ ap (put_by_number number c.in-Some.filter) c.loop-filter.invariant.put
          ∙ put_behind_all before c.in-Some.filter rest (subst AreSaved (sym whole) c.requires.saved);
      seen = c.in_ok-put_next.ensures.seen;
    }
