use Rattle.std.proofs.Common.{◌≡◌, OnOk, IfSome, subst}
use Rattle.std.proofs.lemmas.Result.{on_ok_weaker}
use Rattle.jql_meaning.specs.Surroundings.{surroundings_of}
use Rattle.tracker_filters.specs.contracts.filters.Filters.{the_view}
use Rattle.rising_numbers.specs.ByNumber.{by_number}
use Rattle.tracker_filters.specs.Saved.{number, condition_of}
use Rattle.tracker_filters.specs.Watched.{WatchedFilters, holders_from}
use Rattle.tracker_filters.proofs.Watching.{members_told}
use Rattle.tracker_filters.proofs.filters.Filters.members.Goals as goal

pub returns-clause-ok : goal.returns-clause-ok
returns-clause-ok c =
    let s = c.self.inside in
    let issues = c.members.new.room.items in
    subst (λ (w : WatchedFilters). OnOk c.members.result (IfSome (by_number number c.args.no.0 w.filters) (λ f. issues ≡ holders_from 1 w.around w.moment (condition_of f) w.histories))) c.self.view_is
    (on_ok_weaker c.members.result (λ held. members_told s.list.items (the_view s).histories (surroundings_of s.around.value) s.moment.value c.args.no.0 s.views issues c.members.ensures.grid held c.self.invariant) c.members.ensures.members)
