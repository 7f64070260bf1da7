use Rattle.std.proofs.Common.{◌≡◌}
use Rattle.change_history.specs.History.{present}
use Rattle.workflow.specs.Difference.{entries_of}
use Rattle.issue_calls.proofs.group.entries_of.Given as goal

abbrev pub invariant-loop-next : goal.invariant-loop-next
invariant-loop-next l = l.entries ≡ entries_of (present l.issue.history) l.change l.at l.author l.yielded
