use Rattle.tracker_sight.proofs.Searched.{filters_are_searches, others_find_of_the_owners}
use Rattle.tracker_sight.proofs.laws.filters_are_searches.Goals as goal

pub returns-clause-owners : goal.returns-clause-owners
returns-clause-owners c = filters_are_searches

pub returns-clause-others : goal.returns-clause-others
returns-clause-others c = others_find_of_the_owners
