use Rattle.std.proofs.Common.{sym, subst}
use Rattle.tracker_machine.specs.Machine.{Machine}
use Rattle.tracker_machine.specs.Tracker.{IsTracker}
use Rattle.tracker_loading.specs.Assembled.{IsWhole}
use Rattle.tracker_loading.proofs.Assembled.{parts_agree}
use Rattle.tracker_loading.proofs.making.Making.assemble.Goals as goal

pub put_together-requires-clause-agreed : goal.put_together-requires-clause-agreed
put_together-requires-clause-agreed c =
    let base = c.into_parts-base.result.0 in
    let given = c.into_parts-base.result.1 in
    let same = sym c.into_parts-base.ensures.same in
    parts_agree base given c.in-Ok.derived (subst IsTracker same c.requires) (subst (λ (m : Machine). IsWhole m base given) same c.into_parts-base.ensures.whole)
    c.in-Ok.ensures
