use Rattle.std.proofs.Common.{◌≡◌, ◌++◌, drop, map}
use Rattle.std.specs.Prelude.{filter}
use Rattle.tracker_machine.specs.Boards.{has_status}
use Rattle.list_calls.proofs.board_issues.column.Given as goal

abbrev pub invariant-loop-issue : goal.invariant-loop-issue
invariant-loop-issue l =
    map (λ h. h.key) (filter (has_status l.place) (map (λ i. i.now.history) l.issues))
    ≡ l.keys ++ map (λ h. h.key) (filter (has_status l.place) (map (λ i. i.now.history) (drop l.issue-index l.issues)))
