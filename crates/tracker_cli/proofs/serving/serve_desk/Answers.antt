use Rattle.std.proofs.Common.{subst}
use Rattle.tracker_core.specs.Desk.{HasBadRow, IsOpenFault}
use Rattle.setup_reading.specs.declared.built_in_text.TheConstants.{BUILT_IN}
use Rattle.tracker_cli.proofs.Served.{served_opened}
use Rattle.tracker_cli.proofs.serving.serve_desk.Goals as goal

pub returns-clause-served : goal.returns-clause-served
returns-clause-served g c = λ _.
    served_opened _ _ _ _ g.P.Keeper.keeps g.P.Keeper.tells g.P.Keeper.faults g.P.Keeper.leaves BUILT_IN.now c.args.keeper c.close.result
    c.in-Ok.desk c.new-requests.result c.serve_links-end.result.2
    c.in-Ok.ensures.opened c.in-Ok.ensures.rows c.in-Ok.ensures.left_ok c.in-Ok.ensures.later_ok c.new-requests.ensures c.serve_links-end.ensures.made c.close.ensures c.is_tracker.ensures c.is_tracker-2.ensures

pub returns-clause-ended : goal.returns-clause-ended
returns-clause-ended g c = λ zero. c.serve_links-end.ensures.ended (c.status_of.ensures.ended zero)

pub returns-clause-link_cause : goal.returns-clause-link_cause
returns-clause-link_cause g c = λ two. c.serve_links-end.ensures.failed (c.status_of.ensures.failed two)

pub returns-in-Err-BadRow-default-clause-bad : goal.returns-in-Err-BadRow-default-clause-bad
returns-in-Err-BadRow-default-clause-bad g c = λ _.
    let bad = c.in-Err-BadRow-default in (
      bad.field-0-0-0,
      bad.field-0-0-1,
      subst (IsOpenFault (HasBadRow g.P.Keeper.keeps g.P.Keeper.tells c.args.keeper bad.keeper)) bad.field-0-0-is bad.ensures.fault,
    )
