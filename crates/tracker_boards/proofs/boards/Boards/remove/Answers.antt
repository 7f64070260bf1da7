use Rattle.std.proofs.Common.{subst, sym}
use Rattle.tracker_boards.specs.Boards.{AreBoards}
use Rattle.tracker_boards.proofs.Kept.{boards_without}
use Rattle.tracker_boards.proofs.boards.Boards.remove.Goals as goal

pub invariant_of-self : goal.invariant_of-self
invariant_of-self c = subst AreBoards (sym c.take_out.ensures.items) (boards_without c.args.no.0 _ c.self.invariant)
