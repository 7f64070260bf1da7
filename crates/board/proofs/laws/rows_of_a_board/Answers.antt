use Rattle.board.proofs.Rows.{rows_are_members}
use Rattle.board.proofs.laws.rows_of_a_board.Goals as goal

pub returns : goal.returns
returns c = rows_are_members
