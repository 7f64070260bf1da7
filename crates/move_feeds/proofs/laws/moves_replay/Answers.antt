use Rattle.move_feeds.proofs.Replay.{each_move_is_one, replaying_gives_the_set}
use Rattle.move_feeds.proofs.laws.moves_replay.Goals as goal

pub returns-clause-set : goal.returns-clause-set
returns-clause-set c = replaying_gives_the_set

pub returns-clause-moves : goal.returns-clause-moves
returns-clause-moves c = each_move_is_one
