use Rattle.std.proofs.Common.{◌≡◌, ◌∷◌, ◌++◌, [], List, sym, ap, subst, ◌∙◌}
use Rattle.change_history.specs.History.{History}
use Rattle.jql_bound.specs.declared.context.Phase.TheVariants.{Future}
use Rattle.jql_meaning.specs.Surroundings.{Surroundings, surroundings_of}
use Rattle.tracker_filters.specs.Sprint.{DifferInEmptySprint}
use Rattle.tracker_filters.specs.Watched.{WatchedFilters}
use Rattle.tracker_work.specs.Work.{TrackedWork}
use Rattle.tracker_machine.specs.Machine.{Machine}
use Rattle.tracker_machine.specs.Effect.{applied, IsAllowed, with_sprint}
use Rattle.tracker_machine.specs.Effect.Effect.{NewSprint}
use Rattle.tracker_machine.specs.Search.{surroundings_in}
use Rattle.tracker_machine.specs.SprintRules.{with_future, MayMakeSprint}
use Rattle.tracker_machine.specs.Sprints.{next_sprint}
use Rattle.tracker_machine.proofs.Sprinting.{surroundings_more}
use Rattle.tracker_machine.proofs.Tracker.{tracker_applied}
use Rattle.tracker_state.specs.State.{Held, IsState, machine_of}
use Rattle.tracker_state.specs.contracts.state.State.{the_view}
use Rattle.tracker_state.proofs.Sprinting.{around_more, next_is_empty}
use Rattle.tracker_state.proofs.States.{state_planned}
use Rattle.tracker_state.proofs.state.State.make_sprint.Goals as goal

pub see_new_sprint-requires : goal.see_new_sprint-requires
see_new_sprint-requires c =
    let m : Machine = (the_view c.self.inside).machine in
    let name = c.args.name in
    let is = c.self.invariant in
    let w = c.self.inside.filters in
    let around : surroundings_of c.add_phase.new.self.context ≡ surroundings_in m.setup (with_future m.sprints name) =
    c.add_phase.ensures.context ∙ ap (λ (s : Surroundings). record s { sprints = s.sprints ++ Future ∷ [] }) is.around ∙ around_more m.setup m.sprints name in
    subst (λ (s : Surroundings). DifferInEmptySprint s (surroundings_of c.add_phase.new.self.context) w.histories) (sym is.seen.around)
    (subst (λ (s : Surroundings). DifferInEmptySprint (surroundings_in m.setup m.sprints) s w.histories) (sym around)
    (subst (λ (hs : List History). DifferInEmptySprint (surroundings_in m.setup m.sprints) (surroundings_in m.setup (with_future m.sprints name)) hs) (sym is.seen.histories)
    (record { sprint = next_sprint m; differ = surroundings_more m.setup m.sprints name; empty = next_is_empty m is.tracker })))

pub invariant_of-self : goal.invariant_of-self
unfolding applied IsAllowed
invariant_of-self c =
    let s = c.self.inside in
    let m : Machine = (the_view s).machine in
    let name = c.args.name in
    let is = c.self.invariant in
    let seen = c.see_new_sprint.new.self in
    let context = c.add_phase.new.self.context in
    let may : MayMakeSprint m.sprints name = subst (λ (h : Held). MayMakeSprint h.machine.sprints name) (sym c.self.view_is) c.requires.allowed in
    let around : surroundings_of context ≡ surroundings_in m.setup (with_future m.sprints name) =
    c.add_phase.ensures.context ∙ ap (λ (s : Surroundings). record s { sprints = s.sprints ++ Future ∷ [] }) is.around ∙ around_more m.setup m.sprints name in
    let made = c.in-Ok.ensures.made in
    let next : machine_of c.add_phase.new.self.setup s.moment s.change s.issues s.externals s.ranks seen s.boards c.make.new.self ≡ with_sprint m name =
    λ i. machine_of (c.add_phase.ensures.setup i) s.moment s.change s.issues s.externals s.ranks (c.see_new_sprint.ensures i) s.boards (made i) in
    subst (λ (n : Machine). IsState n s.issues.tally seen c.make.new.self context) (sym next)
    (state_planned m s.issues.tally s.filters seen s.work c.make.new.self s.setting.context context (with_future m.sprints name) is
    (tracker_applied (NewSprint name) m may is.tracker)
    (ap (λ (w : WatchedFilters). w.histories) c.see_new_sprint.ensures)
    (ap (λ (w : WatchedFilters). w.moment) c.see_new_sprint.ensures)
    (ap (λ (w : WatchedFilters). w.filters) c.see_new_sprint.ensures)
    (ap (λ (w : WatchedFilters). w.around) c.see_new_sprint.ensures)
    around (ap (λ (w : TrackedWork). w.seen) made))
