use Rattle.std.proofs.Common.{◌≡◌, ◌++◌, ◌∷◌, [], List, Option, Some, None, is_some, true, false, refl, sym, ◌∙◌, ap, append_assoc, arith}
use Rattle.std.specs.Vec.Iter.{into_iter_items}
use Rattle.std.proofs.lemmas.Bool.{false≢true}
use Rattle.field_values.specs.declared.numbers.IssueNo.{IssueNo}
use Rattle.board.specs.Order.{Pair, Ranking}
use Rattle.board.proofs.Gaps.{places_before_none}
use Rattle.rank_balancer.specs.Step.{Move, after_move, after_moves}
use Rattle.rank_balancer.proofs.Plans.{after_moves-push}
use Rattle.rank_balancer.proofs.Keeps.{keeps_among, balance_idle, balance_stays}
use Rattle.rank_balancer.proofs.step.apply.Goals as goal

pub put-requires-clause-free : goal.put-requires-clause-free
put-requires-clause-free c =
    let whole = sym c.loop-issue.invariant.rest ∙ ap (λ xs. c.loop-issue.yielded ++ xs) c.in-Some.ensures.steps.0 in
    let keeps = keeps_among c.args.order.now.pairs c.args.balance.now c.args.plan c.loop-issue.yielded (c.in-Some.issue, c.in-Some.rank) (into_iter_items c.next.new.self) c.issues.ensures.order c.requires.moving c.requires.agrees c.requires.planned whole in
    rw c.loop-issue.invariant.order keeps.free

pub put-requires-clause-room : goal.put-requires-clause-room
put-requires-clause-room c none =
    let whole = sym c.loop-issue.invariant.rest ∙ ap (λ xs. c.loop-issue.yielded ++ xs) c.in-Some.ensures.steps.0 in
    let keeps = keeps_among c.args.order.now.pairs c.args.balance.now c.args.plan c.loop-issue.yielded (c.in-Some.issue, c.in-Some.rank) (into_iter_items c.next.new.self) c.issues.ensures.order c.requires.moving c.requires.agrees c.requires.planned whole in
    let pairs = ap (λ (o : Ranking). o.pairs) c.loop-issue.invariant.order in
    let past = places_before_none (after_moves c.args.order.now.pairs c.loop-issue.yielded) c.in-Some.issue.0 (rw pairs at none) in
    let there = keeps.there in
    absurd (omega (arith, past, there))

pub loop-issue-preserved : goal.loop-issue-preserved
loop-issue-preserved c =
    let m : Move = (c.in-Some.issue, c.in-Some.rank) in
    let rest = into_iter_items c.next.new.self in
    let whole = sym c.loop-issue.invariant.rest ∙ ap (λ xs. c.loop-issue.yielded ++ xs) c.in-Some.ensures.steps.0 in
    let ps = c.args.order.now.pairs in
    let moved : Ranking → Ranking = λ o. record o { pairs = after_move o.pairs m } in
    let with_pairs : List Pair → Ranking = λ xs. record { pairs = xs; room = c.args.order.now.room } in
    record {
      can = tt;
      finite = tt;
      rest = append_assoc c.loop-issue.yielded (m ∷ []) rest ∙ sym whole;
      order = c.put.ensures ∙ ap moved c.loop-issue.invariant.order ∙ ap with_pairs (sym (after_moves-push ps c.loop-issue.yielded m));
    }

none_from : (o : Option IssueNo) → is_some o ≡ false → o ≡ None
none_from None h = refl
none_from (Some i) h = absurd (cc)

some_from : (o : Option IssueNo) → is_some o ≡ true → o ≡ None → ⊥
some_from o h none = let no : is_some o ≡ false = ap is_some none in false≢true (sym no ∙ h)

pub returns-then-is_none-clause-balance : goal.returns-then-is_none-clause-balance
returns-then-is_none-clause-balance c =
    balance_idle c.loop-issue.order.pairs c.args.balance.now c.in-Moving.from c.in-Moving.to c.in-Moving.is (sym c.pick.ensures ∙ none_from c.pick.result c.if-is_none.ensures)

pub returns-else-is_none-clause-balance : goal.returns-else-is_none-clause-balance
returns-else-is_none-clause-balance c =
    balance_stays c.loop-issue.order.pairs c.args.balance.now c.in-Moving.from c.in-Moving.to c.in-Moving.is (λ none. some_from c.pick.result c.if-is_none.ensures (c.pick.ensures ∙ none))
