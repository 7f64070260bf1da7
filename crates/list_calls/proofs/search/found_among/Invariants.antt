use Rattle.std.proofs.Common.{◌≡◌, ◌≤◌, ◌+◌, ◌++◌, map, drop, option_map}
use Rattle.std.specs.Prelude.{filter}
use Rattle.jql_bound.specs.Condition.{view}
use Rattle.list_calls.specs.Browsing.{is_found_by}
use Rattle.list_calls.proofs.search.found_among.Given as goal

abbrev pub invariant-loop-place : goal.invariant-loop-place
invariant-loop-place g l =
    (filter (is_found_by l.state.machine l.table (option_map view l.bound.cond)) l.state.machine.histories
    ≡ map (λ i. i.now.history) l.issues.items ++ filter (is_found_by l.state.machine l.table (option_map view l.bound.cond)) (map (λ i. i.history) (drop l.place l.issue-items)))
    × (l.steps ≤ l.fn.steps + l.place)
