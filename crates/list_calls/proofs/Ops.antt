-- The operations that are prepared are those that keep the effect.
use Rattle.std.proofs.Common.{◌≡◌, [], ◌∷◌, refl}
use Rattle.fields.specs.SetupParts.{names_in}
use Rattle.field_values.specs.declared.numbers.BoardNo.{BoardNo}
use Rattle.field_values.specs.declared.numbers.FilterNo.{FilterNo}
use Rattle.board.specs.declared.board.Board.{Board}
use Rattle.tracker_keeper.specs.declared.row.RowOp.TheVariants.{Drop}
use Rattle.tracker_keeper.specs.Bodies.{body_text}
use Rattle.tracker_machine.specs.Machine.{Machine}
use Rattle.tracker_machine.specs.Saved.{SavedFilter}
use Rattle.tracker_machine.specs.Effect.Effect.{NewFilter, NoFilter, NewBoard, NoBoard}
use Rattle.tracker_machine.specs.Kept.{parts_of, drops_of, board_drops, ops_of}
use Rattle.list_calls.specs.Rows.{filter_op, board_op}

pub save_ops_are : (m : Machine) (f : SavedFilter) → filter_op (names_in m.setup) f ∷ [] ≡ ops_of (NewFilter f) m
unfolding ops_of parts_of body_text
save_ops_are m f = refl

pub drop_filter_ops_are : (m : Machine) (filter_no : FilterNo) → Drop 8 filter_no.0 ∷ board_drops filter_no m.boards ≡ ops_of (NoFilter filter_no) m
unfolding ops_of drops_of
drop_filter_ops_are m filter_no = refl

pub board_ops_are : (m : Machine) (b : Board) → board_op b ∷ [] ≡ ops_of (NewBoard b) m
unfolding ops_of parts_of body_text
board_ops_are m b = refl

pub drop_board_ops_are : (m : Machine) (board_no : BoardNo) → Drop 9 board_no.0 ∷ [] ≡ ops_of (NoBoard board_no) m
unfolding ops_of drops_of
drop_board_ops_are m board_no = refl
