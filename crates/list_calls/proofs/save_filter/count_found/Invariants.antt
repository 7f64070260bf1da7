use Rattle.std.proofs.Common.{◌≡◌, ◌≤◌, ◌+◌, length, map, drop}
use Rattle.std.specs.Prelude.{filter}
use Rattle.tracker_filters.specs.Saved.{condition_of}
use Rattle.tracker_machine.specs.Search.{is_found}
use Rattle.list_calls.proofs.save_filter.count_found.Given as goal

-- as many as are counted, and those among the issues that are left
abbrev pub invariant-loop-place : goal.invariant-loop-place
invariant-loop-place l =
    (length (filter (is_found l.state.machine l.ready.filter.owner.0 (condition_of l.ready.filter)) l.state.machine.histories)
    ≡ l.count + length (filter (is_found l.state.machine l.ready.filter.owner.0 (condition_of l.ready.filter)) (map (λ i. i.history) (drop l.place l.issue-items))))
    × (l.count ≤ l.place)
