use Rattle.std.proofs.Common.{subst, sym}
use Rattle.tracker_boards.specs.Boards.{AreBoards}
use Rattle.tracker_boards.proofs.Kept.{boards_of_others}
use Rattle.tracker_boards.proofs.boards.Boards.remove_of.Goals as goal

pub invariant_of-self : goal.invariant_of-self
invariant_of-self c = subst AreBoards (sym c.retain_others.ensures.items) (boards_of_others c.args.filter.0 _ c.self.invariant)
