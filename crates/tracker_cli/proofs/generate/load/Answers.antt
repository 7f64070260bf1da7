use Rattle.std.proofs.Common.{refl}
use Rattle.tracker_cli.proofs.Loads.{front_back, whole_back}
use Rattle.tracker_cli.proofs.generate.load.Goals as goal

pub returns-in-Done-clause-memory : goal.returns-in-Done-clause-memory
returns-in-Done-clause-memory g c = λ is.
    (c.tell_load.ensures.memory is, whole_back _ _ _ _ _ _ _ _ c.close-keeper.ensures c.in-Done.ensures)

pub returns-in-KeeperFault-clause-unkept : goal.returns-in-KeeperFault-clause-unkept
returns-in-KeeperFault-clause-unkept g c = λ _.
    (refl, front_back _ _ _ _ _ _ _ _ c.close-keeper.ensures c.in-KeeperFault.ensures)

pub returns-clause-memory : goal.returns-clause-memory
returns-clause-memory g c = λ _.
    (refl, front_back _ _ _ _ _ _ _ _ c.close-keeper.ensures c.in-Memory.ensures)
