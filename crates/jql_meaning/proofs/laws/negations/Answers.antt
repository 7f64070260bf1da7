use Rattle.jql_bound.proofs.Negation.{not_of_not}
use Rattle.jql_meaning.proofs.Opposites.{negation_is_plain}
use Rattle.jql_meaning.proofs.laws.negations.Goals as goal

pub returns-clause-negation : goal.returns-clause-negation
returns-clause-negation c = negation_is_plain

pub returns-clause-twice : goal.returns-clause-twice
returns-clause-twice c = not_of_not
