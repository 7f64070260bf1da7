use Rattle.std.proofs.Common.{◌≡◌, ap, sym, subst, ◌∙◌, []}
use Rattle.field_values.specs.Parts.{Parts}
use Rattle.jql_meaning.specs.Surroundings.{Surroundings, surroundings_of}
use Rattle.tracker_machine.specs.Machine.{Machine}
use Rattle.tracker_machine.specs.Effect.{IsAllowed, MayHave, regrouped, with_group_members}
use Rattle.tracker_machine.specs.Search.{surroundings_in}
use Rattle.tracker_state.specs.State.{Held, IsState, machine_of, saved_filters}
use Rattle.tracker_state.specs.contracts.state.State.{the_view}
use Rattle.tracker_state.proofs.States.{state_regrouped}
use Rattle.tracker_state.proofs.state.State.regroup.Goals as goal

pub invariant_of-self : goal.invariant_of-self
unfolding IsAllowed
invariant_of-self g c =
    let s = c.self.inside in
    let m : Machine = (the_view s).machine in
    let group = c.args.new.group in
    let members = c.args.new.members in
    let is = c.self.invariant in
    let seen = c.see_members.new.self in
    let saw = c.see_members.ensures in
    let told = c.set_members.ensures in
    let context = c.set_members.new.self.context in
    let may : MayHave m.setup group members = subst (λ (h : Held). MayHave h.machine.setup group members) (sym c.self.view_is) c.requires.allowed in
    let around : surroundings_of context ≡ surroundings_in (regrouped m.setup group members) m.sprints =
    told.context
    ∙ ap (λ (p : Parts). record (surroundings_in p []) { sprints = s.setting.context.sprints.items }) told.parts
    ∙ ap (λ (a : Surroundings). record (surroundings_in (regrouped m.setup group members) []) { sprints = a.sprints }) is.around in
    let next : machine_of c.set_members.new.self.setup s.moment s.change s.issues s.externals s.ranks seen s.boards s.work ≡ with_group_members m group members =
    λ i. record m { text = told.text i; setup = told.parts i; filters = saved_filters (saw.filters i) } in
    subst (λ (n : Machine). IsState n s.issues.tally seen s.work context) (sym next)
    (state_regrouped m s.issues.tally s.filters seen s.work s.setting.context context group members is may saw.histories saw.moment saw.filters saw.around around)
