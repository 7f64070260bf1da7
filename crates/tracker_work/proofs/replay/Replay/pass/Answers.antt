use Rattle.tracker_work.specs.Replay.{seen_in}
use Rattle.tracker_work.proofs.Replaying.{reached_next, passed}
use Rattle.tracker_work.proofs.replay.Replay.pass.Goals as goal

pub turn-requires-clause-reached : goal.turn-requires-clause-reached
turn-requires-clause-reached c =
    reached_next c.steps_of_histories.ensures.numbers (seen_in c.args.origin.now) c.loop-next.self c.loop-next.invariant.replayed c.args.to c.loop-next.invariant.none
    c.in-Some.next c.in-Some.ensures.1 c.in-Some.ensures.0

pub returns-clause-replayed : goal.returns-clause-replayed
returns-clause-replayed c =
    passed c.steps_of_histories.ensures.numbers (seen_in c.args.origin.now) c.loop-next.self c.loop-next.invariant.replayed c.args.to c.loop-next.invariant.none
    c.loop-next.invariant.later c.in_default.ensures
