use Rattle.std.proofs.Common.{◌≡◌, map, take}
use Rattle.rank_calls.specs.Beside.{key_beside_rank}
use Rattle.rank_calls.proofs.ranks.ranked_keys.Given as goal

abbrev pub invariant-loop-issue : goal.invariant-loop-issue
invariant-loop-issue l = l.ranks ≡ map (key_beside_rank l.state.machine) (take l.issue-index l.issues)
