use Rattle.std.proofs.Common.{◌≡◌, List, IfOk, IfSome, map, ap, ◌∙◌, subst}
use Rattle.std.specs.List.{filter_map}
use Rattle.change_history.specs.History.{History}
use Rattle.rising_numbers.specs.ByNumber.{by_number}
use Rattle.tracker_filters.specs.declared.filter.Filter.{Filter}
use Rattle.tracker_filters.specs.Saved.{number, condition_of}
use Rattle.tracker_filters.specs.Watched.{WatchedFilters, holders_from}
use Rattle.list_calls.specs.Found.{browsed}
use Rattle.list_calls.proofs.Shown.{bound_at, shown_is}
use Rattle.list_calls.proofs.filter_issues.shown.Goals as goal

pub returns : goal.returns
returns c =
    let m = c.args.state.now.machine in
    let w : WatchedFilters = c.args.state.now.watched in
    let f : Filter = c.args.filter.now in
    let caller = c.args.caller.0 in
    let items = c.members.new.room.items in
    let bound = bound_at m.setup f.no.0 f w.filters c.have_seen.ensures.bound c.requires in
    let told = subst (λ (v : WatchedFilters). IfSome (by_number number f.no.0 v.filters) (λ g. items ≡ holders_from 1 v.around v.moment (condition_of g) v.histories)) c.filters.ensures c.in_ok-members.ensures.ok in
    let members : items ≡ holders_from 1 w.around w.moment (condition_of f) w.histories =
    subst (λ o. IfSome o (λ g. items ≡ holders_from 1 w.around w.moment (condition_of g) w.histories)) c.requires told in
    subst (λ (hs : List History). IfOk c.browsed_of.result (λ issues. map (λ i. i.now.history) issues.items ≡ hs))
    (ap (filter_map (browsed m f.owner.0 caller)) (c.deref.ensures.value ∙ members) ∙ shown_is m w caller f c.have_seen.ensures.seen bound)
    c.browsed_of.ensures
