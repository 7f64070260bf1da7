use Rattle.std.proofs.Common.{◌≡◌, [], take}
use Rattle.jql_meaning.specs.Surroundings.{surroundings_of}
use Rattle.change_history.specs.History.{histories_of}
use Rattle.tracker_loading.specs.Filtered.{HasSeen}
use Rattle.tracker_loading.proofs.filtered.none_on.Given as goal

-- no filter has come, and the issues before this one are seen
abbrev pub invariant-loop-issue : goal.invariant-loop-issue
invariant-loop-issue g l = record {
  none : l.asked.filters ≡ [];
  seen : HasSeen (histories_of (take l.issue-index l.issues)) (surroundings_of l.context) l.at l.asked;
}
