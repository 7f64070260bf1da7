use Rattle.std.proofs.Common.{◌<◌, ◌≤◌, subst, arith}
use Rattle.std.specs.Prelude.{IsTrue, ◌↔◌}
use Rattle.tracker_loading.proofs.Truths.{is_at_most}
use Rattle.tracker_loading.proofs.Turns.{not_before_place, last_before}
use Rattle.tracker_loading.proofs.turn.is_not_before.Goals as goal

pub returns : goal.returns
returns c =
    let is = c.args.issues.now in
    let place = c.args.place in
    let at = c.args.at in
    let last = c.index-issues-place.result in
    let some : 0 < place = omega arith in
    let says = subst (λ a. IsTrue c.le.result ↔ (a ≤ at)) c.created.ensures (is_at_most c.created.result at c.le.result c.le.ensures) in (
      λ t. not_before_place is place at last c.requires.created some c.requires.within c.index-issues-place.is (says.0 t),
      λ before. says.1 (last_before is place at last some c.requires.within c.index-issues-place.is before),
    )
