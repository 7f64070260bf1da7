use Rattle.std.proofs.Common.{sym, subst}
use Rattle.rank_balancer.specs.Balance.{IsMoving, from_of, to_of}
use Rattle.rank_balancer.specs.Step.{ArePicks}
use Rattle.tracker_machine.specs.Machine.{Machine}
use Rattle.tracker_machine.specs.Effect.{IsAllowed}
use Rattle.tracker_machine.proofs.Tracker.{tracker_stepped}
use Rattle.tracker_ranks.specs.Ranked.{OrderedIssues}
use Rattle.tracker_state.specs.State.{Held, IsState}
use Rattle.tracker_state.specs.contracts.state.State.{the_view}
use Rattle.tracker_state.proofs.state.State.step.Goals as goal

pub invariant_of-self : goal.invariant_of-self
unfolding IsAllowed
invariant_of-self c =
    let m : Machine = (the_view c.self.inside).machine in
    let moves = c.args.moves in
    let may = subst (λ (s : Held). IsMoving s.machine.balance × ArePicks s.machine.order (from_of s.machine.balance) (to_of s.machine.balance) moves) (sym c.self.view_is) c.requires in
    subst (λ (r : OrderedIssues). IsState (record m { order = r.order; balance = r.balance }) c.self.inside.issues.tally c.self.inside.filters c.self.inside.work c.self.inside.setting.context) (sym c.apply.ensures)
    (record {
      counted = c.self.invariant.counted;
      few_changes = c.self.invariant.few_changes;
      tracker = tracker_stepped m moves c.self.invariant.tracker may.0 may.1;
      seen = record { histories = c.self.invariant.seen.histories; around = c.self.invariant.seen.around; moment = c.self.invariant.seen.moment };
      bound = c.self.invariant.bound;
      worked = c.self.invariant.worked;
      around = c.self.invariant.around;
    })
