use Rattle.tracker_machine.proofs.laws.parts_may_be_kept.Goals as goal
use Rattle.tracker_machine.proofs.Keepable.{part_kept}

-- src/laws.rt:35:1
pub returns-clause-all : goal.returns-clause-all
returns-clause-all c = part_kept
