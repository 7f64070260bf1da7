use Rattle.rank_strings.proofs.Computed.{chosen_is_computed, chosen_alone, none_without_room}
use Rattle.rank_strings.proofs.laws.computed_rank.Goals as goal

pub returns-clause-chosen : goal.returns-clause-chosen
returns-clause-chosen c = chosen_is_computed

pub returns-clause-alone : goal.returns-clause-alone
returns-clause-alone c = chosen_alone

pub returns-clause-none : goal.returns-clause-none
returns-clause-none c = none_without_room
