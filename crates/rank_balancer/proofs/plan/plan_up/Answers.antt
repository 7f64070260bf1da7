use Rattle.std.proofs.Common.{◌≡◌, ◌+◌, ◌-◌, ◌++◌, ◌∷◌, [], length, vec_len, sym, ◌∙◌, ap, subst, rules, arith}
use Rattle.std.specs.Option.{option_copied}
use Rattle.field_values.specs.declared.numbers.IssueNo.{IssueNo}
use Rattle.board.specs.Place.{rank_below}
use Rattle.rank_balancer.specs.Step.{neighbour_after}
use Rattle.rank_balancer.proofs.Moved.{issue_at}
use Rattle.rank_balancer.proofs.Plans.{PlansUp, plans_up, refused_up}
use Rattle.rank_balancer.proofs.plan.plan_up.Goals as goal

pub loop-place-preserved : goal.loop-place-preserved
loop-place-preserved c =
    let ps = c.args.order.now.pairs in
    let ms = c.loop-place.moves.items in
    let place = c.loop-place.place - 1 in
    let is : c.loop-place.place ≡ place + 1 = omega arith in
    let was = subst (λ k. PlansUp ps c.args.from c.args.border k ms) is c.loop-place.invariant.plans in
    let beside : option_copied c.neighbour-beside.result ≡ neighbour_after ms (rank_below ps c.args.border) = rw (sym c.rank_below.ensures, sym c.deref.ensures.value) c.neighbour-beside.ensures in
    let next = rw beside at c.in-Ok.ensures.next in
    let plans = plans_up ps c.args.from c.args.border place ms c.in-Ok.rank c.requires.from was next in
    let n = c.requires.parted.in_range in
    let e : c.issue_at.result ≡ issue_at ps place = c.issue_at.ensures in
    let items : c.push_reserved.new.self.items ≡ ms ++ (issue_at ps place, c.in-Ok.rank) ∷ [] = c.push_reserved.ensures.items ∙ ap (λ (i : IssueNo). ms ++ (i, c.in-Ok.rank) ∷ []) e in
    record {
      plans = subst (λ xs. PlansUp ps c.args.from c.args.border place xs) (sym items) plans;
      count = omega arith;
      room = c.push_reserved.ensures.capacity ∙ c.loop-place.invariant.room;
      low = omega arith;
    }

pub returns-in-Err-clause-fault : goal.returns-in-Err-clause-fault
returns-in-Err-clause-fault c =
    let ps = c.args.order.now.pairs in
    let ms = c.loop-place.moves.items in
    let place = c.loop-place.place - 1 in
    let is : c.loop-place.place ≡ place + 1 = omega arith in
    let was = subst (λ k. PlansUp ps c.args.from c.args.border k ms) is c.loop-place.invariant.plans in
    let beside : option_copied c.neighbour-beside.result ≡ neighbour_after ms (rank_below ps c.args.border) = rw (sym c.rank_below.ensures, sym c.deref.ensures.value) c.neighbour-beside.ensures in
    let no_rank = rw beside at c.in-Err.ensures.fault in
    let len : length ms ≡ vec_len c.loop-place.moves = search rules in
    refused_up ps c.args.from c.args.border place c.args.count ms c.in-Err.fault c.requires.from c.requires.parted was (omega (arith, len)) c.requires.count no_rank
