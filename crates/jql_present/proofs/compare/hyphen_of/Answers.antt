use Rattle.std.proofs.Common.{◌==◌, length, ℕ, sym, arith}
use Rattle.std.proofs.lemmas.Bool.Decides.{nat_tests}
use Rattle.std.proofs.lemmas.List.Sums.{position_or_len_is}
use Rattle.jql_present.proofs.compare.hyphen_of.Goals as goal

pub returns-then-byte-eq45-clause-place : goal.returns-then-byte-eq45-clause-place
returns-then-byte-eq45-clause-place c =
    sym (position_or_len_is (λ (byte : ℕ). byte == 45) c.args.key.now c.loop-place.place 0 (omega arith) (λ k h. c.loop-place.invariant k h) (λ h. grind (arith, nat_tests)))

pub returns-clause-place : goal.returns-clause-place
returns-clause-place c =
    sym (position_or_len_is (λ (byte : ℕ). byte == 45) c.args.key.now (length c.args.key.now) 0 (omega arith) (λ k h. c.loop-place.invariant k (omega arith)) (λ h. absurd (omega arith)))
