use Rattle.filter_lists.proofs.Shown.{lists_are_shown, nothing_is_listed}
use Rattle.filter_lists.proofs.laws.lists_are_shown.Goals as goal

pub returns-clause-shown : goal.returns-clause-shown
returns-clause-shown c = lists_are_shown

pub returns-clause-none : goal.returns-clause-none
returns-clause-none c = nothing_is_listed
