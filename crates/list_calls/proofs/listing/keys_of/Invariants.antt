use Rattle.std.proofs.Common.{◌≡◌, map, take}
use Rattle.list_calls.proofs.listing.keys_of.Given as goal

abbrev pub invariant-loop-issue : goal.invariant-loop-issue
invariant-loop-issue l = l.keys ≡ map (λ i. i.now.history.key) (take l.issue-index l.issues)
