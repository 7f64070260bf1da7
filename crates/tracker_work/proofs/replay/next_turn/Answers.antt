use Rattle.std.proofs.Common.{arith}
use Rattle.tracker_work.proofs.Replaying.{one_more, all_stay}
use Rattle.tracker_work.proofs.replay.next_turn.Goals as goal

pub loop-place-preserved : goal.loop-place-preserved
loop-place-preserved c = record {
  next = one_more c.args.sprints.now.sprints c.args.after c.loop-place.place c.loop-place.next c.turn_of.result c.earlier-next.result c.state_of-state.result c.state_of-state.ensures
      c.loop-place.invariant.next c.turn_of.ensures.next c.earlier-next.ensures.up_to;
  ahead = c.earlier-next.ensures.ahead c.args.after c.loop-place.invariant.ahead c.turn_of.ensures.ahead;
}

pub returns-clause-next : goal.returns-clause-next
returns-clause-next c =
    all_stay c.args.sprints.now.sprints c.args.after c.loop-place.place c.loop-place.next (omega (arith, c.loop-place-test.false, c.count-place-end.ensures.number)) c.loop-place.invariant.next
