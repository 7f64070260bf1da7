use Rattle.std.proofs.Common.{◌≡◌, map, take}
use Rattle.tracker_machine.specs.Overviews.{told_board}
use Rattle.page_calls.proofs.board_list.told_boards.Given as goal

abbrev pub invariant-loop-board : goal.invariant-loop-board
invariant-loop-board l = l.told ≡ map told_board (take l.board-index l.boards)
