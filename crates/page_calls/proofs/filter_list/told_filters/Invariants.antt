use Rattle.std.proofs.Common.{◌≡◌, map, take}
use Rattle.tracker_machine.specs.Overviews.{told_filter}
use Rattle.tracker_state.specs.State.{saved_as}
use Rattle.page_calls.proofs.filter_list.told_filters.Given as goal

abbrev pub invariant-loop-filter : goal.invariant-loop-filter
invariant-loop-filter l = l.told ≡ map (λ f. told_filter l.setup.users (saved_as f.now)) (take l.filter-index l.filters)
