use Rattle.std.proofs.Common.{◌≡◌, List, ap, sym, subst, ◌∙◌}
use Rattle.std.specs.List.{All}
use Rattle.tracker_filters.specs.Saved.{number}
use Rattle.tracker_machine.specs.Machine.{Machine}
use Rattle.tracker_machine.specs.Effect.{applied, IsAllowed, with_filter}
use Rattle.tracker_machine.specs.Effect.Effect.{NewFilter}
use Rattle.tracker_machine.specs.Saved.{SavedFilter, MaySave}
use Rattle.tracker_machine.specs.Tracker.{IsTracker}
use Rattle.tracker_machine.proofs.Saved.{all_put}
use Rattle.tracker_machine.proofs.Tracker.{tracker_applied}
use Rattle.tracker_state.specs.State.{Held, IsBound, saved_as, saved_filters}
use Rattle.tracker_state.specs.contracts.state.State.{the_view}
use Rattle.tracker_state.proofs.States.{state_beside}
use Rattle.tracker_state.proofs.Watching.{may_put, put_by_number-saved}
use Rattle.tracker_state.proofs.state.State.save.Goals as goal

pub put-requires-clause-may : goal.put-requires-clause-may
unfolding IsAllowed
put-requires-clause-may c =
    let m : Machine = (the_view c.self.inside).machine in
    let f = c.args.ready.filter in
    may_put m.setup c.self.inside.filters.filters f (subst (λ (s : Held). MaySave s.machine.setup s.machine.filters (saved_as f)) (sym c.self.view_is) c.requires.allowed)

pub invariant_of-self : goal.invariant_of-self
unfolding applied IsAllowed
invariant_of-self c =
    let m : Machine = (the_view c.self.inside).machine in
    let f = c.args.ready.filter in
    let w = c.self.inside.filters in
    let seen = c.put.new.self in
    let is = c.put.ensures in
    let may : MaySave m.setup m.filters (saved_as f) = subst (λ (s : Held). MaySave s.machine.setup s.machine.filters (saved_as f)) (sym c.self.view_is) c.requires.allowed in
    let bound : IsBound m.setup f = subst (λ (s : Held). IsBound s.machine.setup f) (sym c.self.view_is) c.requires.fits.bound in
    let next : record m { filters = saved_filters seen.filters } ≡ with_filter m (saved_as f) =
    ap (λ (fs : List SavedFilter). record m { filters = fs }) (ap saved_filters is.filters ∙ sym (put_by_number-saved f w.filters)) in
    state_beside m c.self.inside.issues.tally w seen c.self.inside.work c.self.inside.setting.context m.order m.balance (saved_filters seen.filters) m.boards c.self.invariant
    (subst IsTracker (sym next) (tracker_applied (NewFilter (saved_as f)) m may c.self.invariant.tracker))
    (record { known = is.histories; beside = is.around; now = is.moment })
    (subst (All (IsBound m.setup)) (sym is.filters) (all_put number (IsBound m.setup) f w.filters bound c.self.invariant.bound))

pub returns : goal.returns
unfolding applied
returns c =
    let m : Machine = (the_view c.self.inside).machine in
    let f = c.args.ready.filter in
    let seen = c.put.new.self in
    let next : record m { filters = saved_filters seen.filters } ≡ with_filter m (saved_as f) =
    ap (λ (fs : List SavedFilter). record m { filters = fs }) (ap saved_filters c.put.ensures.filters ∙ sym (put_by_number-saved f c.self.inside.filters.filters)) in
    subst (λ (s : Held). record m { filters = saved_filters seen.filters } ≡ with_filter s.machine (saved_as f)) c.self.view_is next
