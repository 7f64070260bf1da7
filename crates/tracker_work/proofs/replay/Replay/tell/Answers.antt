use Rattle.burndown.specs.Burndown.{FitsAfter}
use Rattle.burndown.specs.Group.{sprint_before}
use Rattle.tracker_work.specs.Replay.{seen_in}
use Rattle.tracker_work.specs.Told.{group}
use Rattle.tracker_work.proofs.Steps.{for_named}
use Rattle.tracker_work.proofs.Replaying.{may_be_told, told_reaches}
use Rattle.tracker_work.proofs.replay.Replay.tell.Goals as goal

pub row_after-requires-clause-total_before : goal.row_after-requires-clause-total_before
row_after-requires-clause-total_before c =
    let seen = seen_in c.args.origin.now in
    let b = c.reserve_rows.new.burndown in
    let may = may_be_told seen c.args.told.now c.requires.told c.pass.new.self c.pass.ensures.replayed c.pass.ensures.reached b c.in_ok-reserve_rows.ensures.stands
    c.steps_of_histories.ensures.next c.steps_of_histories.ensures.room in
    for_named (λ s. FitsAfter b s (group c.args.told.now)) (may.fits c.requires.origin.few c.requires.origin.points) (sprint_before c.args.told.now.before)

pub row_after-requires-clause-total_after : goal.row_after-requires-clause-total_after
row_after-requires-clause-total_after c =
    let seen = seen_in c.args.origin.now in
    let b = c.reserve_rows.new.burndown in
    let may = may_be_told seen c.args.told.now c.requires.told c.pass.new.self c.pass.ensures.replayed c.pass.ensures.reached b c.in_ok-reserve_rows.ensures.stands
    c.steps_of_histories.ensures.next c.steps_of_histories.ensures.room in
    for_named (λ s. FitsAfter b s (group c.args.told.now)) (may.fits c.requires.origin.few c.requires.origin.points) c.args.told.now.after.sprint

pub turn-requires-clause-reached : goal.turn-requires-clause-reached
turn-requires-clause-reached c =
    told_reaches (seen_in c.args.origin.now) c.args.told.now c.requires.told c.pass.new.self c.pass.ensures.replayed c.pass.ensures.reached c.reserve_rows.new.burndown
    c.in_ok-reserve_rows.ensures.stands c.steps_of_histories.ensures.next c.steps_of_histories.ensures.room c.row_after.new.self c.row_after.ensures
