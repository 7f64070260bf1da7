use Rattle.std.proofs.Common.{◌≡◌, drop}
use Rattle.tracker_filters.specs.Saved.{by_owner}
use Rattle.tracker_loading.proofs.join_filter.has_named.Given as goal

-- it stands among those that are left
abbrev pub invariant-loop-filter : goal.invariant-loop-filter
invariant-loop-filter l = by_owner l.owner l.name (drop l.filter-index l.filters) ≡ by_owner l.owner l.name l.filters
