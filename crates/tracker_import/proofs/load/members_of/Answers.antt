use Rattle.std.proofs.Common.{◌≡◌, None, Some, length, sym, ap, ◌∙◌, rules}
use Rattle.std.proofs.lemmas.List.{length-map}
use Rattle.rising_numbers.specs.ByNumber.{by_number}
use Rattle.rising_numbers.proofs.Placed.{found_at}
use Rattle.tracker_filters.specs.Saved.{number}
use Rattle.tracker_filters.specs.Watched.{WatchedFilters}
use Rattle.tracker_import.proofs.Members.{members_there, members_missing}
use Rattle.tracker_import.proofs.load.members_of.Goals as goal

pub shown-requires : goal.shown-requires
shown-requires c =
    let fs = c.args.state.now.watched.filters in
    let at : by_number number c.args.no.0 fs ≡ Some c.in-Some.filter.now =
    ap (λ (w : WatchedFilters). by_number number c.args.no.0 w.filters) (sym c.filters.ensures) ∙ sym c.in-Some.ensures in
    ap (λ n. by_number number n fs) (found_at number c.args.no.0 c.in-Some.filter.now fs at).2 ∙ at

pub returns-in_ok-issues-in-Some : goal.returns-in_ok-issues-in-Some
returns-in_ok-issues-in-Some c =
    let fs = c.args.state.now.watched.filters in
    let at : by_number number c.args.no.0 fs ≡ Some c.in-Some.filter.now =
    ap (λ (w : WatchedFilters). by_number number c.args.no.0 w.filters) (sym c.filters.ensures) ∙ sym c.in-Some.ensures in
    let counted : c.len.result ≡ length c.in_ok-issues-in-Some.issues.items = search rules in
    counted ∙ sym (length-map c.in_ok-issues-in-Some.issues.items (λ i. i.now.history))
    ∙ members_there c.args.state.now.machine c.args.no fs c.in-Some.filter.now _ c.have_seen.ensures.filters at c.in_ok-issues-in-Some.ensures

pub returns-in-None : goal.returns-in-None
returns-in-None c =
    let fs = c.args.state.now.watched.filters in
    let at : by_number number c.args.no.0 fs ≡ None =
    ap (λ (w : WatchedFilters). by_number number c.args.no.0 w.filters) (sym c.filters.ensures) ∙ sym c.in-None.ensures in
    members_missing c.args.state.now.machine c.args.no fs c.have_seen.ensures.filters at
