use Rattle.std.proofs.Common.{◌≡◌, ℕ, List, ap, sym, ◌∙◌}
use Rattle.field_values.specs.declared.numbers.FilterNo.{FilterNo}
use Rattle.rising_numbers.specs.ByNumber.{free_from}
use Rattle.rising_numbers.proofs.Mapped.{free_from-map}
use Rattle.tracker_filters.specs.Saved.{number}
use Rattle.tracker_filters.specs.Watched.{WatchedFilters}
use Rattle.tracker_machine.specs.Saved.{SavedFilter, filter_number}
use Rattle.tracker_state.specs.State.{saved_as}
use Rattle.list_calls.proofs.save_filter.free_number.Goals as goal

numbered : (one other : FilterNo) → one.0 ≡ other.0 → one ≡ other
numbered one other same = ap (λ (n : ℕ). record { 0 = n }) same

pub returns : goal.returns
returns c =
    numbered c.free_number.result (record { 0 = free_from filter_number 1 c.args.state.now.machine.filters })
    (c.free_number.ensures ∙ ap (λ (w : WatchedFilters). free_from number 1 w.filters) c.filters.ensures
    ∙ sym (free_from-map saved_as filter_number 1 c.args.state.now.watched.filters)
    ∙ ap (λ (gs : List SavedFilter). free_from filter_number 1 gs) (sym c.have_seen.ensures.filters))
