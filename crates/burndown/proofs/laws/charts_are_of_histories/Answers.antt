use Rattle.burndown.proofs.Charts.{charts_are_of_histories, future_has_no_rows, told_gives}
use Rattle.burndown.proofs.laws.charts_are_of_histories.Goals as goal

pub returns-clause-charts : goal.returns-clause-charts
returns-clause-charts c = charts_are_of_histories

pub returns-clause-told : goal.returns-clause-told
returns-clause-told c = told_gives

pub returns-clause-future : goal.returns-clause-future
returns-clause-future c = future_has_no_rows
