use Rattle.std.proofs.Common.{arith}
use Rattle.relative_dates.proofs.ReadingLemmas.{first_space-is}
use Rattle.relative_dates.proofs.amount.first_space.Goals as goal

pub returns-then-b-eq32-clause-value : goal.returns-then-b-eq32-clause-value
returns-then-b-eq32-clause-value c = first_space-is _ _ (omega arith) c.loop-i.invariant (λ l. c.if-b-eq32.true)

pub returns-clause-value : goal.returns-clause-value
returns-clause-value c =
    first_space-is _ _ (omega arith) (λ k h. c.loop-i.invariant k (omega (arith, c.loop-i-test.false))) (λ l. absurd (omega arith))
