use Rattle.std.proofs.Common.{inr, subst}
use Rattle.tracker_core.specs.Desk.{HasBadRow, IsOpenFault}
use Rattle.setup_reading.specs.declared.built_in_text.TheConstants.{BUILT_IN}
use Rattle.tracker_serve.proofs.ManyRounds.{served_opened}
use Rattle.tracker_serve.proofs.serving.serve_workers.Goals as goal

pub returns-clause-served_all : goal.returns-clause-served_all
returns-clause-served_all g c = λ is.
    served_opened g.P.Keeper.keeps g.P.Keeper.tells g.P.Keeper.faults g.P.Keeper.leaves c.args.workers _ _ BUILT_IN.now c.args.keeper c.close.result
    c.in-Ok.desk c.over-served.result c.serve_rounds-end.result.2
    c.in-Ok.ensures.opened c.in-Ok.ensures.rows c.in-Ok.ensures.left_ok c.in-Ok.ensures.later_ok c.over-served.ensures c.serve_rounds-end.ensures.made (c.status_of.ensures.ended is)
    c.close.ensures c.is_tracker.ensures c.is_tracker-2.ensures

pub returns-clause-served_some : goal.returns-clause-served_some
returns-clause-served_some g c = λ is.
    served_opened g.P.Keeper.keeps g.P.Keeper.tells g.P.Keeper.faults g.P.Keeper.leaves c.args.workers _ _ BUILT_IN.now c.args.keeper c.close.result
    c.in-Ok.desk c.over-served.result c.serve_rounds-end.result.2
    c.in-Ok.ensures.opened c.in-Ok.ensures.rows c.in-Ok.ensures.left_ok c.in-Ok.ensures.later_ok c.over-served.ensures c.serve_rounds-end.ensures.made (c.status_of.ensures.failed is)
    c.close.ensures c.is_tracker.ensures c.is_tracker-2.ensures

pub returns-clause-lacked : goal.returns-clause-lacked
returns-clause-lacked g c = λ is. inr
    (served_opened g.P.Keeper.keeps g.P.Keeper.tells g.P.Keeper.faults g.P.Keeper.leaves c.args.workers _ _ BUILT_IN.now c.args.keeper c.close.result
    c.in-Ok.desk c.over-served.result c.serve_rounds-end.result.2
    c.in-Ok.ensures.opened c.in-Ok.ensures.rows c.in-Ok.ensures.left_ok c.in-Ok.ensures.later_ok c.over-served.ensures c.serve_rounds-end.ensures.made (c.status_of.ensures.lacked is)
    c.close.ensures c.is_tracker.ensures c.is_tracker-2.ensures)

pub returns-clause-ended : goal.returns-clause-ended
returns-clause-ended g c = λ is. c.serve_rounds-end.ensures.ended (c.status_of.ensures.ended is)

pub returns-clause-link_cause : goal.returns-clause-link_cause
returns-clause-link_cause g c = λ is. c.serve_rounds-end.ensures.fault (c.status_of.ensures.failed is)

pub returns-in-Err-BadRow-default-clause-bad : goal.returns-in-Err-BadRow-default-clause-bad
returns-in-Err-BadRow-default-clause-bad g c = λ _.
    let bad = c.in-Err-BadRow-default in (
      bad.field-0-0-0,
      bad.field-0-0-1,
      subst (IsOpenFault (HasBadRow g.P.Keeper.keeps g.P.Keeper.tells c.args.keeper bad.keeper)) bad.field-0-0-is bad.ensures.fault,
    )
