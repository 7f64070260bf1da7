use Rattle.std.proofs.Common.{◌≡◌, ◌<◌, ◌≤◌, ◌+◌, ℕ, List, length, get_or, slice_get, set, Some, refl, sym, subst, ◌∙◌, arith, rules}
use Rattle.std.proofs.lemmas.Grind.{common_steps}
use Rattle.std.proofs.lemmas.List.{length-set}
use Rattle.std.proofs.lemmas.Option.{slice_get_read}
use Rattle.jql_bound.specs.declared.cond.Cond.{Cond, All, Any, Now}
use Rattle.jql_meaning.specs.Surroundings.{surroundings_of}
use Rattle.jql_prepare.specs.Same.{IsSame}
use Rattle.jql_prepare.proofs.Conditions.{All_same, Any_same, Now_same, same_none, same_more, all_below}
use Rattle.jql_prepare.proofs.query.+conditions.Goals as goal

later : (xs : List Cond) (i k : ℕ) (x d : Cond) → i + 1 ≤ k → get_or (set xs i x) k d ≡ get_or xs k d
later xs i k x d le = grind (arith, common_steps, le)

pub settled_cond-returns-in-All : goal.settled_cond-returns-in-All
settled_cond-returns-in-All t c =
    let s = surroundings_of c.args.context.now in
    subst (λ (x : Cond). IsSame s c.args.at x (All c.cheapest_first.result)) (sym c.in-All.is) (All_same s c.args.at c.in-All.conds c.settled_each.result c.cheapest_first.result c.settled_each.ensures c.cheapest_first.ensures)

pub settled_cond-returns-in-Any : goal.settled_cond-returns-in-Any
settled_cond-returns-in-Any t c =
    let s = surroundings_of c.args.context.now in
    subst (λ (x : Cond). IsSame s c.args.at x (Any c.cheapest_first-in-Any.result)) (sym c.in-Any.is) (Any_same s c.args.at c.in-Any.conds c.settled_each-in-Any.result c.cheapest_first-in-Any.result c.settled_each-in-Any.ensures c.cheapest_first-in-Any.ensures)

pub settled_cond-returns-in-Now : goal.settled_cond-returns-in-Now
settled_cond-returns-in-Now t c =
    let s = surroundings_of c.args.context.now in
    subst (λ (x : Cond). IsSame s c.args.at x (Now c.settled_leaf.result)) (sym c.in-Now.is) (Now_same s c.args.at c.in-Now.leaf c.settled_leaf.result c.settled_leaf.ensures)

pub settled_each-loop-place-init : goal.settled_each-loop-place-init
settled_each-loop-place-init t c = record {
  unvisited = (refl, λ k d le. refl);
  same = same_none (surroundings_of c.args.context.now) c.args.at c.args.conds.items;
}

pub settled_each-loop-place-preserved : goal.settled_each-loop-place-preserved
settled_each-loop-place-preserved t c =
    let old = c.args.conds.items in
    let mid = c.loop-place.conds.items in
    let place = c.loop-place.place in
    let one : Cond = c.index_mut.result.now in
    let unvisited = c.loop-place.invariant.unvisited in
    let in' : place < length mid = search rules in
    let same : one ≡ get_or old place one = c.index_mut.ensures.value ∙ unvisited.1 place one (omega arith) in
    let was : slice_get old place ≡ Some one = slice_get_read old (length mid) place one unvisited.0 in' same in
    record {
      unvisited = (length-set mid place c.settle_cond.new.cond ∙ unvisited.0, λ k d le. later mid place k c.settle_cond.new.cond d le ∙ unvisited.1 k d (omega (arith, le)));
      same = same_more (surroundings_of c.args.context.now) c.args.at old mid place one c.settle_cond.new.cond in' was c.settle_cond.ensures c.loop-place.invariant.same;
    }

pub settled_each-returns : goal.settled_each-returns
settled_each-returns t c =
    all_below (surroundings_of c.args.context.now) c.args.at c.args.conds.items c.loop-place.conds.items c.loop-place.place c.loop-place.invariant.unvisited.0 (omega (arith, c.loop-place-test.false, c.len-place-end.ensures)) c.loop-place.invariant.same
