use Rattle.fields.proofs.PlaceNames.{choices_are_found, users_are_found, groups_are_found, transitions_are_found, projects_are_found}
use Rattle.fields.proofs.laws.names_are_found.Goals as goal

pub returns-clause-choices : goal.returns-clause-choices
returns-clause-choices c = choices_are_found

pub returns-clause-users : goal.returns-clause-users
returns-clause-users c = users_are_found

pub returns-clause-groups : goal.returns-clause-groups
returns-clause-groups c = groups_are_found

pub returns-clause-transitions : goal.returns-clause-transitions
returns-clause-transitions c = transitions_are_found

pub returns-clause-projects : goal.returns-clause-projects
returns-clause-projects c = projects_are_found
