use Rattle.std.proofs.Common.{◌≡◌, ◌-◌, ◌+◌, ℕ, List, [], ◌∷◌, ◌++◌, Some, take, drop, slice_get, ap, sym, ◌∙◌, arith}
use Rattle.tracker_calls.specs.declared.listed.ToldSprint.{ToldSprint}
use Rattle.tracker_machine.specs.Overviews.{sprints_from}
use Rattle.page_calls.proofs.Listing.{one_more}
use Rattle.page_calls.proofs.sprint_list.told_sprints.Goals as goal

pub loop-place-preserved : goal.loop-place-preserved
loop-place-preserved c =
    let all : List ToldSprint = sprints_from 1 c.args.state.now.machine.sprints in
    let place = c.loop-place.place in
    let one = c.in_ok-told_sprint.field-0 in
    let behind = c.loop-place.invariant.1 in
    let at : place ≡ place + 1 - 1 = omega arith in
    let here : slice_get all place ≡ Some one = ap (slice_get all) at ∙ c.in_ok-told_sprint.ensures in (
      c.in_ok-push.ensures.ok ∙ ap (λ (told : List ToldSprint). told ++ one ∷ []) c.loop-place.invariant.0 ∙ sym (one_more all c.args.from place one behind here),
      omega (arith, behind),
      omega (arith, behind, c.loop-place-test.true),
    )

pub returns : goal.returns
returns c =
    let all : List ToldSprint = sprints_from 1 c.args.state.now.machine.sprints in
    let end : c.loop-place.place - c.args.from ≡ c.args.end - c.args.from =
    omega (arith, c.loop-place-test.false, c.loop-place.invariant.1, c.loop-place.invariant.2) in
    c.loop-place.invariant.0 ∙ ap (λ (n : ℕ). take n (drop c.args.from all)) end
