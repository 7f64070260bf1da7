use Rattle.std.proofs.Common.{◌≡◌, ◌++◌, drop, map}
use Rattle.std.specs.Prelude.{filter}
use Rattle.tracker_machine.specs.Overviews.{is_told}
use Rattle.tracker_state.specs.State.{saved_as, saved_filters}
use Rattle.page_calls.proofs.filter_list.told_among.Given as goal

abbrev pub invariant-loop-filter : goal.invariant-loop-filter
invariant-loop-filter l =
    filter (is_told l.caller.0 l.administers) (saved_filters l.all)
    ≡ map (λ f. saved_as f.now) l.told.items ++ filter (is_told l.caller.0 l.administers) (saved_filters (drop l.filter-index l.all))
