use Rattle.std.proofs.Common.{◌≡◌, ◌∙◌, arith, ap, sym}
use Rattle.jql_bound.specs.Condition.{Condition, view, views, all_of, any_of, now, past}
use Rattle.jql_meaning.specs.Surroundings.{surroundings_of}
use Rattle.jql_meaning.specs.Truth.{holds}
use Rattle.jql_eval.proofs.Joining.{none_joined, undecided_on, decided_holds, is_deciding, is_not_deciding}
use Rattle.jql_eval.proofs.Views.{view-All, view-Any, view-Now, view-Past, all_hold_is, some_holds_is, now_is, past_is}
use Rattle.jql_eval.proofs.truth.+truths.Goals as goal

pub joined_holds-loop-cond-init : goal.joined_holds-loop-cond-init
joined_holds-loop-cond-init t c = none_joined c.args.deciding (surroundings_of c.args.context.now) c.args.issue.now.history c.args.at

pub joined_holds-loop-cond-preserved : goal.joined_holds-loop-cond-preserved
joined_holds-loop-cond-preserved t c =
    undecided_on c.args.deciding (surroundings_of c.args.context.now) c.args.issue.now.history c.args.at c.args.conds.now c.loop-cond.cond-index c.cond-item.result
    (omega arith) c.cond-item.is c.loop-cond.invariant
    (is_not_deciding c.condition_holds.result _ c.args.deciding c.condition_holds.ensures c.if-condition_holds-deciding.false)

pub joined_holds-returns-then-condition_holds-deciding : goal.joined_holds-returns-then-condition_holds-deciding
joined_holds-returns-then-condition_holds-deciding t c =
    let so = is_deciding c.condition_holds.result _ c.args.deciding c.condition_holds.ensures c.if-condition_holds-deciding.true in
    sym so ∙ decided_holds c.args.deciding (surroundings_of c.args.context.now) c.args.issue.now.history c.args.at c.args.conds.now c.loop-cond.cond-index c.cond-item.result (omega arith) c.cond-item.is so

pub condition_holds-returns-in-All : goal.condition_holds-returns-in-All
condition_holds-returns-in-All t c =
    let s = surroundings_of c.args.context.now in
    let h = c.args.issue.now.history in
    let xs = views c.deref.result.now in
    let seen : view c.args.cond.now ≡ all_of xs = rw (c.in-All.is, c.deref.ensures.value) (view-All c.in-All.conds) in
    c.joined_holds.ensures ∙ all_hold_is s h c.args.at xs ∙ ap (λ (x : Condition). holds s h c.args.at x) (sym seen)

pub condition_holds-returns-in-Any : goal.condition_holds-returns-in-Any
condition_holds-returns-in-Any t c =
    let s = surroundings_of c.args.context.now in
    let h = c.args.issue.now.history in
    let xs = views c.deref-in-Any.result.now in
    let seen : view c.args.cond.now ≡ any_of xs = rw (c.in-Any.is, c.deref-in-Any.ensures.value) (view-Any c.in-Any.conds) in
    c.joined_holds-in-Any.ensures ∙ some_holds_is s h c.args.at xs ∙ ap (λ (x : Condition). holds s h c.args.at x) (sym seen)

pub condition_holds-returns-in-Now : goal.condition_holds-returns-in-Now
condition_holds-returns-in-Now t c =
    let s = surroundings_of c.args.context.now in
    let h = c.args.issue.now.history in
    let seen : view c.args.cond.now ≡ now c.in-Now.leaf = rw c.in-Now.is (view-Now c.in-Now.leaf) in
    c.holds_present.ensures ∙ now_is s h c.args.at c.in-Now.leaf ∙ ap (λ (x : Condition). holds s h c.args.at x) (sym seen)

pub condition_holds-returns-in-Past : goal.condition_holds-returns-in-Past
condition_holds-returns-in-Past t c =
    let s = surroundings_of c.args.context.now in
    let h = c.args.issue.now.history in
    let seen : view c.args.cond.now ≡ past c.in-Past.leaf = rw c.in-Past.is (view-Past c.in-Past.leaf) in
    c.holds_past.ensures ∙ past_is s h c.args.at c.in-Past.leaf ∙ ap (λ (x : Condition). holds s h c.args.at x) (sym seen)
