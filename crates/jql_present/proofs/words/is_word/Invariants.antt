use Rattle.std.proofs.Common.{ℕ, ◌<◌, length}
use Rattle.jql_present.proofs.Bytes.{IsSameAt}
use Rattle.jql_present.proofs.words.is_word.Given as goal

abbrev pub invariant-loop-one : goal.invariant-loop-one
invariant-loop-one l = (k : ℕ) → k < length l.yielded → IsSameAt l.fn.wanted.text l.fn.word k
