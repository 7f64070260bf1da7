-- The operations that keep filters and boards.
use Rattle.serde_json.specs.Written.{compact_text}
use Rattle.board.specs.declared.board.Board.{Board}
use Rattle.tracker_keeper.specs.declared.row.RowOp.{RowOp}
use Rattle.field_forms.specs.Known.{Names}
use Rattle.tracker_keeper.specs.declared.row.RowOp.TheVariants.{Put}
use Rattle.tracker_keeper.specs.Bodies.{board_data, body_text}
use Rattle.tracker_machine.specs.Kept.{filter_part}
use Rattle.tracker_machine.specs.Saved.{SavedFilter}

-- the operation that keeps a filter
abbrev pub filter_op : Names → SavedFilter → RowOp
filter_op names f = Put (record { kind = 8; no = f.no.0; body = body_text names (filter_part f) })

-- and one that keeps a board
abbrev pub board_op : Board → RowOp
board_op b =
    Put (record { kind = 9; no = b.no.0; body = compact_text (board_data b.filter.0 b.name) })
