use Rattle.std.proofs.Common.{◌≡◌, ◌∙◌, arith, ap, sym}
use Rattle.jql_bound.specs.Condition.{view, views, all_of, any_of, now, past}
use Rattle.jql_eval.proofs.Views.{view-All, view-Any, view-Now, view-Past}
use Rattle.tracker_filters.specs.Members.{condition_asks}
use Rattle.tracker_filters.proofs.Asked.{all_asks, any_asks, now_asks, past_is_asked, one_of_them, none_of_more, none_of_them}
use Rattle.tracker_filters.proofs.asking.+conditions.Goals as goal

pub condition_asks-returns-in-All : goal.condition_asks-returns-in-All
condition_asks-returns-in-All t c =
    let xs = views c.deref.result.now in
    let seen : view c.args.cond.now ≡ all_of xs = rw (c.in-All.is, c.deref.ensures.value) (view-All c.in-All.conds) in
    c.one_asks.ensures ∙ all_asks xs ∙ ap condition_asks (sym seen)

pub condition_asks-returns-in-Any : goal.condition_asks-returns-in-Any
condition_asks-returns-in-Any t c =
    let xs = views c.deref-in-Any.result.now in
    let seen : view c.args.cond.now ≡ any_of xs = rw (c.in-Any.is, c.deref-in-Any.ensures.value) (view-Any c.in-Any.conds) in
    c.one_asks-in-Any.ensures ∙ any_asks xs ∙ ap condition_asks (sym seen)

pub condition_asks-returns-in-Now : goal.condition_asks-returns-in-Now
condition_asks-returns-in-Now t c =
    let seen : view c.args.cond.now ≡ now c.in-Now.leaf = rw c.in-Now.is (view-Now c.in-Now.leaf) in
    c.operator_asks.ensures ∙ now_asks c.in-Now.leaf ∙ ap condition_asks (sym seen)

pub condition_asks-returns-in-Past : goal.condition_asks-returns-in-Past
condition_asks-returns-in-Past t c =
    let seen : view c.args.cond.now ≡ past c.in-Past.leaf = rw c.in-Past.is (view-Past c.in-Past.leaf) in
    c.past_asks.ensures ∙ past_is_asked c.in-Past.leaf ∙ ap condition_asks (sym seen)

pub one_asks-returns-then-condition_asks : goal.one_asks-returns-then-condition_asks
one_asks-returns-then-condition_asks t c =
    one_of_them c.args.conds.now c.loop-cond.cond-index c.cond-item.result (omega arith) c.cond-item.is (sym c.condition_asks.ensures ∙ c.if-condition_asks.true)

pub one_asks-loop-cond-preserved : goal.one_asks-loop-cond-preserved
one_asks-loop-cond-preserved t c =
    none_of_more c.args.conds.now c.loop-cond.cond-index c.cond-item.result (omega arith) c.cond-item.is (sym c.condition_asks.ensures ∙ c.if-condition_asks.false) c.loop-cond.invariant

pub one_asks-returns : goal.one_asks-returns
one_asks-returns t c = none_of_them c.args.conds.now c.loop-cond.cond-index c.loop-cond-test.false c.loop-cond.invariant
