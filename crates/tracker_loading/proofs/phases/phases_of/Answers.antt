use Rattle.std.proofs.Common.{sym}
use Rattle.tracker_loading.proofs.Sprinting.{one_phase_pushed}
use Rattle.tracker_loading.proofs.phases.phases_of.Goals as goal

pub loop-place-preserved : goal.loop-place-preserved
loop-place-preserved c =
    one_phase_pushed c.args.sprints.now.sprints c.loop-place.place c.in-Some.state c.loop-place.phases.items c.push.new.self.items c.phase_of.result
    (sym c.in-Some.ensures.state) c.loop-place.invariant c.phase_of.ensures c.in_ok-push.ensures.items
