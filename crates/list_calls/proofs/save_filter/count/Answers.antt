use Rattle.std.proofs.Common.{List, length, ap, sym, ◌∙◌}
use Rattle.std.proofs.lemmas.List.{length-map}
use Rattle.tracker_filters.specs.Watched.{WatchedFilters}
use Rattle.tracker_machine.specs.Saved.{SavedFilter}
use Rattle.tracker_state.specs.State.{saved_as}
use Rattle.list_calls.proofs.save_filter.count.Goals as goal

pub returns : goal.returns
returns c =
    c.len.ensures ∙ ap (λ (w : WatchedFilters). length w.filters) c.filters.ensures
    ∙ sym (length-map c.args.state.now.watched.filters saved_as)
    ∙ ap (λ (gs : List SavedFilter). length gs) (sym c.have_seen.ensures.filters)
