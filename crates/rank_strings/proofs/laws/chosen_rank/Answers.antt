use Rattle.rank_strings.proofs.Room.{behind_from_between}
use Rattle.rank_strings.proofs.Unique.{same_from_last, same_chosen}
use Rattle.rank_strings.proofs.laws.chosen_rank.Goals as goal

pub returns-clause-front : goal.returns-clause-front
returns-clause-front c = λ low high bucket h none r between. (behind_from_between low high bucket h none r between).front

pub returns-clause-shortest : goal.returns-clause-shortest
returns-clause-shortest c = same_from_last

pub returns-clause-one : goal.returns-clause-one
returns-clause-one c = same_chosen
