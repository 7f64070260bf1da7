use Rattle.std.proofs.Common.{◌≡◌, ◌<◌, None, length, subst, sym}
use Rattle.rising_numbers.specs.ByNumber.{by_number}
use Rattle.tracker_limits.specs.Limits.{most_boards}
use Rattle.tracker_boards.specs.Boards.{BoardList, AreBoards, number}
use Rattle.tracker_boards.proofs.Kept.{boards_put}
use Rattle.tracker_boards.proofs.boards.Boards.put.Goals as goal

pub invariant_of-self : goal.invariant_of-self
invariant_of-self c =
    let bs = c.self.inside.list.items in
    let free = subst (λ (b : BoardList). by_number number c.args.board.no.0 b.boards ≡ None) (sym c.self.view_is) c.requires.free in
    let few = subst (λ (b : BoardList). length b.boards < most_boards) (sym c.self.view_is) c.requires.few in
    subst AreBoards (sym c.put_in.ensures.items) (boards_put c.args.board bs c.requires.positive free few c.self.invariant)
