use Rattle.std.proofs.Common.{sym, subst}
use Rattle.tracker_machine.specs.Machine.{Machine}
use Rattle.tracker_machine.specs.Effect.{IsAllowed}
use Rattle.tracker_machine.proofs.Tracker.{tracker_ranked}
use Rattle.tracker_ranks.specs.Ranked.{OrderedIssues, IsGiven}
use Rattle.tracker_state.specs.State.{Held, IsState}
use Rattle.tracker_state.specs.contracts.state.State.{the_view}
use Rattle.tracker_state.proofs.state.State.set_rank.Goals as goal

pub invariant_of-self : goal.invariant_of-self
unfolding IsAllowed
invariant_of-self c =
    let m : Machine = (the_view c.self.inside).machine in
    let issue = c.args.new.issue in
    let rank = c.args.new.rank in
    let given : IsGiven m.order m.balance issue rank = subst (λ (s : Held). IsGiven s.machine.order s.machine.balance issue rank) (sym c.self.view_is) c.requires in
    subst (λ (r : OrderedIssues). IsState (record m { order = r.order; balance = r.balance }) c.self.inside.issues.tally c.self.inside.filters c.self.inside.work c.self.inside.setting.context) (sym c.set.ensures)
    (record {
      counted = c.self.invariant.counted;
      few_changes = c.self.invariant.few_changes;
      tracker = tracker_ranked m issue rank c.self.invariant.tracker given;
      seen = record { histories = c.self.invariant.seen.histories; around = c.self.invariant.seen.around; moment = c.self.invariant.seen.moment };
      bound = c.self.invariant.bound;
      worked = c.self.invariant.worked;
      around = c.self.invariant.around;
    })
