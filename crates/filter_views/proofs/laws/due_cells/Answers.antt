use Rattle.filter_views.proofs.DueCells.{settling_takes_one_off, none_is_due_before_the_next, ends_are_of_cells}
use Rattle.filter_views.proofs.laws.due_cells.Goals as goal

pub returns-clause-settled : goal.returns-clause-settled
returns-clause-settled c = settling_takes_one_off

pub returns-clause-next : goal.returns-clause-next
returns-clause-next c = none_is_due_before_the_next

pub returns-clause-there : goal.returns-clause-there
returns-clause-there c = ends_are_of_cells
