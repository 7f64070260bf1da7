use Rattle.std.proofs.Common.{[], ◌∷◌, ap}
use Rattle.jql_syntax.specs.Node.{a_test}
use Rattle.jql_syntax.proofs.Reading.{predicates_back}
use Rattle.jql_syntax.specs.declared.query.Test.TheVariants.{WasNotIn, WasIn}
use Rattle.jql_syntax.proofs.read_test.was_in.Goals as goal

pub returns-then-negated : goal.returns-then-negated
returns-then-negated c = rw c.if-negated.true (ap (λ v. a_test (WasNotIn c.args.list v) ∷ []) (predicates_back c.args.predicates))

pub returns-else-negated : goal.returns-else-negated
returns-else-negated c = rw c.if-negated.false (ap (λ v. a_test (WasIn c.args.list v) ∷ []) (predicates_back c.args.predicates))
