use Rattle.std.proofs.Common.{◌≡◌, true, ap, sym, ◌∙◌}
use Rattle.tracker_work.specs.Seen.{state_in}
use Rattle.tracker_work.specs.States.{starts_after}
use Rattle.tracker_work.specs.Replay.{seen_in}
use Rattle.tracker_work.proofs.Turning.{one_begins}
use Rattle.tracker_work.proofs.replay.begin_one.Goals as goal

pub begin-requires-clause-ahead : goal.begin-requires-clause-ahead
begin-requires-clause-ahead c =
    let seen = seen_in c.args.origin.now in
    let started : starts_after c.args.number (state_in seen.sprints c.args.sprint.0) ≡ true =
    ap (starts_after c.args.number) (sym c.state_of.ensures) ∙ sym c.starts_after.ensures ∙ c.if-starts_after.true in
    (one_begins c.steps_of_histories.ensures.start seen c.args.number c.args.burndown.now c.args.sprint.0 (c.requires.origin.closes c.args.sprint.0) c.requires.charts started).ahead

pub returns-then-starts_after-clause-charts : goal.returns-then-starts_after-clause-charts
returns-then-starts_after-clause-charts c =
    let seen = seen_in c.args.origin.now in
    let started : starts_after c.args.number (state_in seen.sprints c.args.sprint.0) ≡ true =
    ap (starts_after c.args.number) (sym c.state_of.ensures) ∙ sym c.starts_after.ensures ∙ c.if-starts_after.true in
    (one_begins c.steps_of_histories.ensures.start seen c.args.number c.args.burndown.now c.args.sprint.0 (c.requires.origin.closes c.args.sprint.0) c.requires.charts started).begins c.begin.new.self c.begin.ensures
