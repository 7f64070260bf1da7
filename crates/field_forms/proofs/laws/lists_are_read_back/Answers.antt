use Rattle.field_forms.proofs.ListsBack.{set_back, labels_back, listed_back}
use Rattle.field_forms.proofs.laws.lists_are_read_back.Goals as goal

pub returns-clause-sets : goal.returns-clause-sets
returns-clause-sets c = set_back

pub returns-clause-labels : goal.returns-clause-labels
returns-clause-labels c = labels_back

pub returns-clause-values : goal.returns-clause-values
returns-clause-values c = listed_back
