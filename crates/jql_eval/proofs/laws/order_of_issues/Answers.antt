use Rattle.jql_eval.proofs.Ordered.{turns_round, one_number_ties, list_cmp-total}
use Rattle.jql_eval.proofs.laws.order_of_issues.Goals as goal

pub returns-clause-total : goal.returns-clause-total
returns-clause-total c parts keys ranks total = list_cmp-total parts ranks total keys

pub returns-clause-turned : goal.returns-clause-turned
returns-clause-turned c = turns_round

pub returns-clause-ties : goal.returns-clause-ties
returns-clause-ties c = one_number_ties
