use Rattle.burndown.proofs.Charts.{nothing_gives, numbers_pass, start_may_begin, close_may_end, room_stays_apart}
use Rattle.burndown.proofs.Additions.{next_may_be_told, creation_may_be_told, addition_may_be_told}
use Rattle.burndown.proofs.laws.steps_of_histories.Goals as goal

pub returns-clause-nothing : goal.returns-clause-nothing
returns-clause-nothing c = nothing_gives

pub returns-clause-numbers : goal.returns-clause-numbers
returns-clause-numbers c = numbers_pass

pub returns-clause-next : goal.returns-clause-next
returns-clause-next c = next_may_be_told

pub returns-clause-creation : goal.returns-clause-creation
returns-clause-creation c = creation_may_be_told

pub returns-clause-addition : goal.returns-clause-addition
returns-clause-addition c = addition_may_be_told

pub returns-clause-start : goal.returns-clause-start
returns-clause-start c = start_may_begin

pub returns-clause-close : goal.returns-clause-close
returns-clause-close c = close_may_end

pub returns-clause-room : goal.returns-clause-room
returns-clause-room c = room_stays_apart
