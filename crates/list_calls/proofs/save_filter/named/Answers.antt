use Rattle.std.proofs.Common.{List, option_map, ap, sym, ◌∙◌}
use Rattle.tracker_filters.specs.Saved.{by_owner}
use Rattle.tracker_filters.specs.Watched.{WatchedFilters}
use Rattle.tracker_machine.specs.Saved.{SavedFilter, filter_named}
use Rattle.tracker_state.specs.State.{saved_as}
use Rattle.tracker_state.proofs.Watching.{filter_named-saved}
use Rattle.list_calls.proofs.save_filter.named.Goals as goal

pub returns : goal.returns
returns c =
    let owner = c.args.owner in
    let name = c.args.name.now in
    ap (option_map saved_as) (c.named.ensures ∙ ap (λ (w : WatchedFilters). by_owner owner name w.filters) c.filters.ensures)
    ∙ sym (filter_named-saved owner name c.args.state.now.watched.filters)
    ∙ ap (λ (gs : List SavedFilter). filter_named owner name gs) (sym c.have_seen.ensures.filters)
