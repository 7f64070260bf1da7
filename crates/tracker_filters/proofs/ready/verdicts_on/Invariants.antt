use Rattle.std.proofs.Common.{◌≡◌, ◌≤◌, ◌+◌, length, vec_len, vec_capacity}
use Rattle.jql_meaning.specs.Surroundings.{surroundings_of}
use Rattle.tracker_filters.specs.Saved.{condition_of}
use Rattle.tracker_filters.proofs.Made.{FirstVerdicts}
use Rattle.tracker_filters.proofs.ready.verdicts_on.Given as goal

-- the issues before this one have their verdicts, and there is room for the others
abbrev pub invariant-loop-issue : goal.invariant-loop-issue
invariant-loop-issue g l = record {
  made : FirstVerdicts (surroundings_of l.context) l.at (condition_of l.filter) l.issues l.verdicts.items l.issue-index;
  len : vec_len l.verdicts ≡ l.issue-index;
  room : length l.issues ≤ vec_capacity l.verdicts;
  steps : l.steps ≡ l.fn.steps + l.issue-index;
}
