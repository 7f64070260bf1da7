use Rattle.jql_meaning.proofs.Meetings.{changes_are_critical}
use Rattle.jql_meaning.proofs.PastChanges.{past_changes_are_critical, query_changes_are_critical}
use Rattle.jql_meaning.proofs.Differing.{one_differs}
use Rattle.jql_meaning.proofs.laws.truth_changes_at_critical_moments.Goals as goal

pub returns-clause-present : goal.returns-clause-present
returns-clause-present c = changes_are_critical

pub returns-clause-past : goal.returns-clause-past
returns-clause-past c = past_changes_are_critical

pub returns-clause-query : goal.returns-clause-query
returns-clause-query c = query_changes_are_critical

pub returns-clause-condition : goal.returns-clause-condition
returns-clause-condition c = one_differs
