use Rattle.std.proofs.Common.{◌≡◌, ◌-◌, List, set, sym, ap, subst, ◌∙◌}
use Rattle.change_history.specs.History.{History}
use Rattle.jql_bound.specs.declared.context.Phase.{Phase}
use Rattle.jql_meaning.specs.Surroundings.{Surroundings, surroundings_of}
use Rattle.jql_meaning.specs.Sprints.{DifferInOneSprint}
use Rattle.fields.specs.SetupParts.{parts}
use Rattle.tracker_filters.specs.Sprint.{AreNumbered, HoldOneSprint}
use Rattle.sprints.specs.State.{IsNextState}
use Rattle.tracker_work.specs.Seen.{Seen, state_in}
use Rattle.tracker_machine.specs.Machine.{Machine}
use Rattle.tracker_machine.specs.Effect.{applied, IsAllowed, with_state}
use Rattle.tracker_machine.specs.Effect.Effect.{NewState}
use Rattle.tracker_machine.specs.Search.{surroundings_in}
use Rattle.tracker_machine.specs.SprintRules.{in_state, MayTurn}
use Rattle.tracker_machine.proofs.Sprinting.{surroundings_turned}
use Rattle.tracker_machine.proofs.Tracker.{tracker_applied}
use Rattle.tracker_state.specs.State.{Held, IsState, machine_of, saved_filters}
use Rattle.tracker_state.specs.contracts.state.State.{the_view}
use Rattle.tracker_state.proofs.Sprinting.{around_turned, one_sprint_held, are_numbered, same_state}
use Rattle.tracker_state.proofs.States.{state_planned}
use Rattle.tracker_state.proofs.state.State.turn.Goals as goal

pub turn-requires-clause-next : goal.turn-requires-clause-next
unfolding IsAllowed
turn-requires-clause-next g c =
    let m : Machine = (the_view c.self.inside).machine in
    let sprint = c.args.sprint in
    let state = c.args.state in
    let may : MayTurn m.moment m.change m.sprints sprint state = subst (λ (h : Held). MayTurn h.machine.moment h.machine.change h.machine.sprints sprint state) (sym c.self.view_is) c.requires in
    (m.moment, subst (λ (seen : Seen). IsNextState m.moment seen.change (state_in seen.sprints sprint.0) state) (sym c.self.invariant.worked) may.next)

pub see_sprint-requires-clause-differ : goal.see_sprint-requires-clause-differ
unfolding IsAllowed
see_sprint-requires-clause-differ g c =
    let m : Machine = (the_view c.self.inside).machine in
    let sprint = c.args.sprint in
    let state = c.args.state in
    let is = c.self.invariant in
    let w = c.self.inside.filters in
    let may : MayTurn m.moment m.change m.sprints sprint state = subst (λ (h : Held). MayTurn h.machine.moment h.machine.change h.machine.sprints sprint state) (sym c.self.view_is) c.requires in
    let around : surroundings_of c.set_phase.new.self.context ≡ surroundings_in m.setup (in_state m.sprints sprint.0 state) =
    c.set_phase.ensures.context
    ∙ ap (λ (s : Surroundings). record s { sprints = set s.sprints (sprint.0 - 1) c.phase_of.result }) is.around
    ∙ ap (λ (p : Phase). record (surroundings_in m.setup m.sprints) { sprints = set (surroundings_in m.setup m.sprints).sprints (sprint.0 - 1) p }) c.phase_of.ensures
    ∙ around_turned m.setup m.sprints sprint.0 state may.there in
    subst (λ (s : Surroundings). DifferInOneSprint s (surroundings_of c.set_phase.new.self.context) sprint) (sym is.seen.around)
    (subst (λ (s : Surroundings). DifferInOneSprint (surroundings_in m.setup m.sprints) s sprint) (sym around)
    (surroundings_turned m.setup m.sprints sprint state may.there))

pub see_sprint-requires-clause-numbered : goal.see_sprint-requires-clause-numbered
see_sprint-requires-clause-numbered g c =
    let m : Machine = (the_view c.self.inside).machine in
    subst (λ (hs : List History). AreNumbered hs) (sym c.self.invariant.seen.histories) (are_numbered m c.self.invariant.tracker)

pub see_sprint-requires-clause-hold : goal.see_sprint-requires-clause-hold
see_sprint-requires-clause-hold g c =
    let m : Machine = (the_view c.self.inside).machine in
    subst (λ (hs : List History). HoldOneSprint hs c.args.sprint) (sym c.self.invariant.seen.histories) (one_sprint_held m c.self.invariant.tracker c.args.sprint)

pub invariant_of-self : goal.invariant_of-self
unfolding applied IsAllowed
invariant_of-self g c =
    let s = c.self.inside in
    let m : Machine = (the_view s).machine in
    let sprint = c.args.sprint in
    let state = c.args.state in
    let is = c.self.invariant in
    let seen = c.see_sprint.new.self in
    let saw = c.see_sprint.ensures in
    let work = c.turn.new.self in
    let context = c.set_phase.new.self.context in
    let may : MayTurn m.moment m.change m.sprints sprint state = subst (λ (h : Held). MayTurn h.machine.moment h.machine.change h.machine.sprints sprint state) (sym c.self.view_is) c.requires in
    let around : surroundings_of context ≡ surroundings_in m.setup (in_state m.sprints sprint.0 state) =
    c.set_phase.ensures.context
    ∙ ap (λ (s : Surroundings). record s { sprints = set s.sprints (sprint.0 - 1) c.phase_of.result }) is.around
    ∙ ap (λ (p : Phase). record (surroundings_in m.setup m.sprints) { sprints = set (surroundings_in m.setup m.sprints).sprints (sprint.0 - 1) p }) c.phase_of.ensures
    ∙ around_turned m.setup m.sprints sprint.0 state may.there in
    let tells : work.seen ≡ record s.work.seen { sprints = in_state m.sprints sprint.0 state } = c.turn.ensures.turned ∙ same_state s.work.seen sprint.0 state in
    let sprints = ap (λ (t : Seen). t.sprints) tells in
    let next : machine_of c.set_phase.new.self.setup s.moment s.change s.issues s.externals s.ranks seen s.boards work ≡ with_state m sprint state =
    λ i. record m { text = (c.set_phase.ensures.setup i).text; setup = parts (c.set_phase.ensures.setup i); sprints = sprints i; filters = saved_filters (saw.filters i) } in
    subst (λ (n : Machine). IsState n s.issues.tally seen work context) (sym next)
    (state_planned m s.issues.tally s.filters seen s.work work s.setting.context context (in_state m.sprints sprint.0 state) is
    (tracker_applied (NewState sprint state) m may is.tracker)
    saw.histories saw.moment saw.filters saw.around around tells)
