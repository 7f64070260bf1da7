use Rattle.std.proofs.Common.{◌≡◌, ◌++◌, drop, map}
use Rattle.tracker_machine.specs.Boards.{columns_from}
use Rattle.list_calls.proofs.board_issues.columns.Given as goal

abbrev pub invariant-loop-place : goal.invariant-loop-place
invariant-loop-place l =
    columns_from 0 l.statuses (map (λ i. i.now.history) l.issues)
    ≡ l.columns ++ columns_from l.place (drop l.place l.statuses) (map (λ i. i.now.history) l.issues)
