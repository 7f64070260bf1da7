use Rattle.std.proofs.Common.{◌≡◌, ◌∙◌, arith, ap, sym, subst}
use Rattle.jql_bound.specs.Condition.{Condition, view, views, all_of, any_of, now, past}
use Rattle.jql_meaning.specs.Surroundings.{surroundings_of}
use Rattle.jql_meaning.specs.Truth.{holds}
use Rattle.jql_present.specs.Steady.{earlier}
use Rattle.jql_eval.proofs.Joining.{undecided_none, undecided_more, decided_stays, decided_holds, is_deciding, is_not_deciding}
use Rattle.jql_eval.proofs.Views.{view-All, view-Any, view-Now, view-Past, all_hold_is, some_holds_is, now_is, past_is, ConditionStays, all_stay, some_stay, now_stays, past_stays}
use Rattle.jql_eval.proofs.query.+conditions.Goals as goal

pub joined_verdict-loop-cond-init : goal.joined_verdict-loop-cond-init
joined_verdict-loop-cond-init t c = undecided_none c.args.deciding (surroundings_of c.args.context.now) c.args.issue.now.history c.args.at

pub joined_verdict-loop-cond-preserved : goal.joined_verdict-loop-cond-preserved
joined_verdict-loop-cond-preserved t c =
    undecided_more c.args.deciding (surroundings_of c.args.context.now) c.args.issue.now.history c.args.at c.args.conds.now c.loop-cond.cond-index c.cond-item.result c.loop-cond.until c.verdict_of-verdict.result.until c.earlier-until.result
    (omega arith) c.cond-item.is (c.earlier-until.ensures ∙ ap (earlier c.loop-cond.until) c.until.ensures) c.loop-cond.invariant
    (is_not_deciding c.holds.result _ c.args.deciding (c.holds.ensures ∙ c.verdict_of-verdict.ensures.holds) c.if-holds-deciding.false) c.verdict_of-verdict.ensures.until

pub joined_verdict-returns-then-holds-deciding-clause-holds : goal.joined_verdict-returns-then-holds-deciding-clause-holds
joined_verdict-returns-then-holds-deciding-clause-holds t c =
    c.verdict_of-verdict.ensures.holds
    ∙ decided_holds c.args.deciding (surroundings_of c.args.context.now) c.args.issue.now.history c.args.at c.args.conds.now c.loop-cond.cond-index c.cond-item.result (omega arith) c.cond-item.is (is_deciding c.holds.result _ c.args.deciding (c.holds.ensures ∙ c.verdict_of-verdict.ensures.holds) c.if-holds-deciding.true)

pub joined_verdict-returns-then-holds-deciding-clause-until : goal.joined_verdict-returns-then-holds-deciding-clause-until
joined_verdict-returns-then-holds-deciding-clause-until t c =
    decided_stays c.args.deciding (surroundings_of c.args.context.now) c.args.issue.now.history c.args.at c.args.conds.now c.loop-cond.cond-index c.cond-item.result c.verdict_of-verdict.result.until (omega arith) c.cond-item.is (is_deciding c.holds.result _ c.args.deciding (c.holds.ensures ∙ c.verdict_of-verdict.ensures.holds) c.if-holds-deciding.true) c.verdict_of-verdict.ensures.until

pub verdict_of-returns-in-All-clause-holds : goal.verdict_of-returns-in-All-clause-holds
verdict_of-returns-in-All-clause-holds t c =
    let s = surroundings_of c.args.context.now in
    let h = c.args.issue.now.history in
    let xs = views c.deref.result.now in
    let seen : view c.args.cond.now ≡ all_of xs = rw (c.in-All.is, c.deref.ensures.value) (view-All c.in-All.conds) in
    c.joined_verdict.ensures.holds ∙ all_hold_is s h c.args.at xs ∙ ap (λ (x : Condition). holds s h c.args.at x) (sym seen)

pub verdict_of-returns-in-All-clause-until : goal.verdict_of-returns-in-All-clause-until
verdict_of-returns-in-All-clause-until t c =
    let s = surroundings_of c.args.context.now in
    let h = c.args.issue.now.history in
    let xs = views c.deref.result.now in
    let seen : view c.args.cond.now ≡ all_of xs = rw (c.in-All.is, c.deref.ensures.value) (view-All c.in-All.conds) in
    subst (λ (x : Condition). ConditionStays s h x c.args.at c.joined_verdict.result.until) (sym seen) (all_stay s h c.args.at c.joined_verdict.result.until xs c.joined_verdict.ensures.until)

pub verdict_of-returns-in-Any-clause-holds : goal.verdict_of-returns-in-Any-clause-holds
verdict_of-returns-in-Any-clause-holds t c =
    let s = surroundings_of c.args.context.now in
    let h = c.args.issue.now.history in
    let xs = views c.deref-in-Any.result.now in
    let seen : view c.args.cond.now ≡ any_of xs = rw (c.in-Any.is, c.deref-in-Any.ensures.value) (view-Any c.in-Any.conds) in
    c.joined_verdict-in-Any.ensures.holds ∙ some_holds_is s h c.args.at xs ∙ ap (λ (x : Condition). holds s h c.args.at x) (sym seen)

pub verdict_of-returns-in-Any-clause-until : goal.verdict_of-returns-in-Any-clause-until
verdict_of-returns-in-Any-clause-until t c =
    let s = surroundings_of c.args.context.now in
    let h = c.args.issue.now.history in
    let xs = views c.deref-in-Any.result.now in
    let seen : view c.args.cond.now ≡ any_of xs = rw (c.in-Any.is, c.deref-in-Any.ensures.value) (view-Any c.in-Any.conds) in
    subst (λ (x : Condition). ConditionStays s h x c.args.at c.joined_verdict-in-Any.result.until) (sym seen) (some_stay s h c.args.at c.joined_verdict-in-Any.result.until xs c.joined_verdict-in-Any.ensures.until)

pub verdict_of-returns-in-Now-clause-holds : goal.verdict_of-returns-in-Now-clause-holds
verdict_of-returns-in-Now-clause-holds t c =
    let s = surroundings_of c.args.context.now in
    let h = c.args.issue.now.history in
    let seen : view c.args.cond.now ≡ now c.in-Now.leaf = rw c.in-Now.is (view-Now c.in-Now.leaf) in
    c.present_verdict.ensures.holds ∙ now_is s h c.args.at c.in-Now.leaf ∙ ap (λ (x : Condition). holds s h c.args.at x) (sym seen)

pub verdict_of-returns-in-Now-clause-until : goal.verdict_of-returns-in-Now-clause-until
verdict_of-returns-in-Now-clause-until t c =
    let s = surroundings_of c.args.context.now in
    let h = c.args.issue.now.history in
    let seen : view c.args.cond.now ≡ now c.in-Now.leaf = rw c.in-Now.is (view-Now c.in-Now.leaf) in
    subst (λ (x : Condition). ConditionStays s h x c.args.at c.present_verdict.result.until) (sym seen) (now_stays s h c.args.at c.present_verdict.result.until c.in-Now.leaf c.present_verdict.ensures.until)

pub verdict_of-returns-in-Past-clause-holds : goal.verdict_of-returns-in-Past-clause-holds
verdict_of-returns-in-Past-clause-holds t c =
    let s = surroundings_of c.args.context.now in
    let h = c.args.issue.now.history in
    let seen : view c.args.cond.now ≡ past c.in-Past.leaf = rw c.in-Past.is (view-Past c.in-Past.leaf) in
    c.past_verdict.ensures.holds ∙ past_is s h c.args.at c.in-Past.leaf ∙ ap (λ (x : Condition). holds s h c.args.at x) (sym seen)

pub verdict_of-returns-in-Past-clause-until : goal.verdict_of-returns-in-Past-clause-until
verdict_of-returns-in-Past-clause-until t c =
    let s = surroundings_of c.args.context.now in
    let h = c.args.issue.now.history in
    let seen : view c.args.cond.now ≡ past c.in-Past.leaf = rw c.in-Past.is (view-Past c.in-Past.leaf) in
    subst (λ (x : Condition). ConditionStays s h x c.args.at c.past_verdict.result.until) (sym seen) (past_stays s h c.args.at c.past_verdict.result.until c.in-Past.leaf c.past_verdict.ensures.until)
