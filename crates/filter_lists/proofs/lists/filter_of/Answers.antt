use Rattle.std.proofs.Common.{◌≡◌, ℕ, List, Option, Some, None, option_map, IfSome, Bor, sym, ap, ◌∙◌}
use Rattle.std.specs.Option.{option_copied}
use Rattle.field_values.specs.declared.numbers.FilterNo.{FilterNo}
use Rattle.rising_numbers.specs.ByNumber.{by_number}
use Rattle.rising_numbers.proofs.Placed.{found_at}
use Rattle.tracker_filters.specs.declared.filter.Filter.{Filter}
use Rattle.tracker_filters.specs.Saved.{number}
use Rattle.tracker_machine.specs.Saved.{SavedFilter, filter_number}
use Rattle.tracker_state.specs.State.{saved_as}
use Rattle.tracker_state.proofs.Watching.{by_number-saved}
use Rattle.filter_lists.proofs.lists.filter_of.Goals as goal

own_number : (filter_no : FilterNo) (fs : List Filter) (o : Option (Bor Filter)) → option_copied o ≡ by_number number filter_no.0 fs → IfSome o (λ f. f.now.no ≡ filter_no)
own_number filter_no fs None is = tt
own_number filter_no fs (Some f) is = ap (λ (n : ℕ). record { 0 = n }) (found_at number filter_no.0 f.now fs (sym is)).2

pub returns-clause-own : goal.returns-clause-own
returns-clause-own c =
    own_number c.args.no c.args.state.now.watched.filters c.get.result
    (c.get.ensures ∙ ap (λ fs. by_number number c.args.no.0 fs) (ap (λ w. w.filters) c.filters.ensures))

pub returns-clause-named : goal.returns-clause-named
returns-clause-named c =
    let fs = c.args.state.now.watched.filters in
    ap (option_map saved_as) (c.get.ensures ∙ ap (λ (gs : List Filter). by_number number c.args.no.0 gs) (ap (λ w. w.filters) c.filters.ensures))
    ∙ sym (by_number-saved c.args.no.0 fs)
    ∙ ap (λ (gs : List SavedFilter). by_number filter_number c.args.no.0 gs) (sym c.have_seen.ensures.filters)
