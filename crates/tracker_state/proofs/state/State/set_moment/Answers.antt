use Rattle.std.proofs.Common.{◌≤◌, List, sym, subst}
use Rattle.tracker_filters.specs.declared.filter.Filter.{Filter}
use Rattle.tracker_machine.specs.Machine.{Machine}
use Rattle.tracker_machine.specs.Effect.{IsAllowed}
use Rattle.tracker_state.specs.State.{Held, IsState, saved_filters}
use Rattle.tracker_state.specs.contracts.state.State.{the_view}
use Rattle.tracker_state.proofs.States.{state_later}
use Rattle.tracker_state.proofs.state.State.set_moment.Goals as goal

pub invariant_of-self : goal.invariant_of-self
unfolding IsAllowed
invariant_of-self g c =
    let m : Machine = (the_view c.self.inside).machine in
    let w = c.self.inside.filters in
    let seen = c.see_moment.new.self in
    let is = c.see_moment.ensures in
    subst (λ (fs : List Filter). IsState (record m { moment = c.args.to; filters = saved_filters fs }) c.self.inside.issues.tally seen c.self.inside.work c.self.inside.setting.context) (sym is.filters)
    (state_later m c.self.inside.issues.tally w seen c.self.inside.work c.self.inside.setting.context c.args.to c.self.invariant
    (subst (λ (s : Held). s.machine.moment ≤ c.args.to) (sym c.self.view_is) c.requires.0) c.requires.1
    (record { known = is.histories; beside = is.around; now = is.moment }) is.filters)
