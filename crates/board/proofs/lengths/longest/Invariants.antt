use Rattle.std.proofs.Common.{◌≡◌, ◌≤◌, ℕ, get_or}
use Rattle.board.proofs.lengths.longest.Given as goal

abbrev pub invariant-loop-bytes : goal.invariant-loop-bytes
invariant-loop-bytes l = (k : ℕ) → l.bytes ≤ k → get_or l.counts k 0 ≡ 0
