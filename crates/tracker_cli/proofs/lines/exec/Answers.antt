use Rattle.std.proofs.Common.{◌≤◌, sym, subst}
use Rattle.setup_reading.specs.declared.built_in_text.TheConstants.{BUILT_IN}
use Rattle.tracker_core.specs.Desk.{DeskParts, IsOpened}
use Rattle.tracker_core.specs.Left.{LeavesJustIts}
use Rattle.tracker_machine.specs.Kept.{rows_of}
use Rattle.tracker_cli.proofs.Outcomes.{EndsRun-of}
use Rattle.tracker_cli.proofs.lines.exec.Goals as goal

pub returns-clause-run : goal.returns-clause-run
returns-clause-run g c =
    let keeps = g.P.Keeper.keeps in
    let tells = g.P.Keeper.tells in
    let begun = sym c.new-requests.ensures in
    EndsRun-of keeps tells g.P.Keeper.faults g.P.Keeper.leaves _ _ c.args.keeper _ _ _ _ _ _ c.new-requests.result c.answer_lines-end.new.responder
    (λ rows kept. subst (λ (d : DeskParts _). tells d.keeper → IsOpened BUILT_IN.now rows d.machine) begun (c.in-Ok.ensures.opened rows kept))
    (λ rows kept. subst (λ (d : DeskParts _). tells d.keeper → keeps d.keeper (rows_of d.machine)) begun (c.in-Ok.ensures.rows rows kept))
    (λ rows kept left. subst (λ (d : DeskParts _). tells d.keeper → LeavesJustIts g.P.Keeper.leaves d.keeper d.machine) begun (c.in-Ok.ensures.left_ok rows kept left))
    (subst (λ (d : DeskParts _). g.P.Keeper.faults c.args.keeper ≤ g.P.Keeper.faults d.keeper) begun c.in-Ok.ensures.later_ok)
    c.leave.ensures c.is_tracker.ensures c.is_tracker-2.ensures
    c.answer_lines-end.ensures.run
