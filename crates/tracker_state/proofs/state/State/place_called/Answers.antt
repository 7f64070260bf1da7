use Rattle.std.proofs.Common.{◌<◌, ◌-◌, length, sym, subst, ◌∙◌, arith}
use Rattle.tracker_state.specs.State.{Held}
use Rattle.tracker_state.specs.contracts.state.State.{the_view}
use Rattle.tracker_state.proofs.Called.{called_is_there}
use Rattle.tracker_state.proofs.state.State.place_called.Goals as goal

pub overflow_sub-result : goal.overflow_sub-result
overflow_sub-result c =
    let m = (the_view c.self.inside).machine in
    (called_is_there (length m.histories) m.externals c.args.id.now c.in_ok-no.no c.self.invariant.tracker.externals (sym c.find.ensures ∙ c.in_ok-no.was)).0

pub returns-clause-there : goal.returns-clause-there
returns-clause-there c =
    let m = (the_view c.self.inside).machine in
    let there = called_is_there (length m.histories) m.externals c.args.id.now c.in_ok-no.no c.self.invariant.tracker.externals (sym c.find.ensures ∙ c.in_ok-no.was) in
    subst (λ (s : Held). c.in_ok-no.no.0 - 1 < length s.machine.histories) c.self.view_is (omega (arith, there.0, there.1))
