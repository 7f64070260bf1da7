use Rattle.std.proofs.Common.{◌≡◌, ◌≢◌, None, List, ap, ap₂, sym, subst, ◌∙◌}
use Rattle.std.specs.List.{All}
use Rattle.board.specs.declared.board.Board.{Board}
use Rattle.rising_numbers.specs.ByNumber.{by_number}
use Rattle.tracker_boards.specs.Boards.{BoardList}
use Rattle.tracker_filters.specs.Saved.{number}
use Rattle.tracker_machine.specs.Machine.{Machine}
use Rattle.tracker_machine.specs.Effect.{applied, IsAllowed, without_filter}
use Rattle.tracker_machine.specs.Effect.Effect.{NoFilter}
use Rattle.tracker_machine.specs.Saved.{SavedFilter, filter_number}
use Rattle.tracker_machine.specs.Tracker.{IsTracker}
use Rattle.tracker_machine.proofs.Saved.{all_without}
use Rattle.tracker_machine.proofs.Tracker.{tracker_applied}
use Rattle.tracker_state.specs.State.{Held, IsBound, saved_filters}
use Rattle.tracker_state.specs.contracts.state.State.{the_view}
use Rattle.tracker_state.proofs.States.{state_beside}
use Rattle.tracker_state.proofs.Watching.{there_in_both, without_number-saved}
use Rattle.tracker_state.proofs.state.State.drop_filter.Goals as goal

pub remove-requires : goal.remove-requires
unfolding IsAllowed
remove-requires c =
    there_in_both c.args.no.0 c.self.inside.filters.filters
    (subst (λ (s : Held). by_number filter_number c.args.no.0 s.machine.filters ≢ None) (sym c.self.view_is) c.requires)

pub invariant_of-self : goal.invariant_of-self
unfolding applied IsAllowed
invariant_of-self c =
    let m : Machine = (the_view c.self.inside).machine in
    let no = c.args.no in
    let w = c.self.inside.filters in
    let seen = c.remove.new.self in
    let is = c.remove.ensures in
    let boards = c.remove_of.new.self.boards in
    let there : by_number filter_number no.0 m.filters ≢ None = subst (λ (s : Held). by_number filter_number no.0 s.machine.filters ≢ None) (sym c.self.view_is) c.requires in
    let next : record m { filters = saved_filters seen.filters; boards = boards } ≡ without_filter m no =
    ap₂ (λ (fs : List SavedFilter) (bs : List Board). record m { filters = fs; boards = bs }) (ap saved_filters is.filters ∙ sym (without_number-saved no.0 w.filters)) (ap (λ (b : BoardList). b.boards) c.remove_of.ensures) in
    state_beside m c.self.inside.issues.tally w seen c.self.inside.work c.self.inside.setting.context m.order m.balance (saved_filters seen.filters) boards c.self.invariant
    (subst IsTracker (sym next) (tracker_applied (NoFilter no) m there c.self.invariant.tracker))
    (record { known = is.histories; beside = is.around; now = is.moment })
    (subst (All (IsBound m.setup)) (sym is.filters) (all_without number (IsBound m.setup) no.0 w.filters c.self.invariant.bound))

pub returns : goal.returns
unfolding applied
returns c =
    let m : Machine = (the_view c.self.inside).machine in
    let no = c.args.no in
    let seen = c.remove.new.self in
    let boards = c.remove_of.new.self.boards in
    let next : record m { filters = saved_filters seen.filters; boards = boards } ≡ without_filter m no =
    ap₂ (λ (fs : List SavedFilter) (bs : List Board). record m { filters = fs; boards = bs }) (ap saved_filters c.remove.ensures.filters ∙ sym (without_number-saved no.0 c.self.inside.filters.filters))
    (ap (λ (b : BoardList). b.boards) c.remove_of.ensures) in
    subst (λ (s : Held). record m { filters = saved_filters seen.filters; boards = boards } ≡ without_filter s.machine no) c.self.view_is next
