-- Filters and boards of a small tracker: their numbers, and their rows.
use Rattle.std.proofs.Common.{◌≡◌, ℕ, List, [], ◌∷◌, Some, None, codes, refl}
use Rattle.std.specs.Fmt.{digits}
use Rattle.serde_json.proofs.OnLiterals.{serde_json_on_literals}
use Rattle.field_values.specs.declared.numbers.BoardNo.{BoardNo}
use Rattle.field_values.specs.declared.numbers.FilterNo.{FilterNo}
use Rattle.board.specs.declared.board.Board.{Board}
use Rattle.tracker_keeper.specs.declared.row.RowOp.TheVariants.{Put, Drop}
use Rattle.tracker_keeper.specs.Bodies.{body_text, filter_data, board_data}
use Rattle.tracker_machine.specs.Machine.{Machine, opening}
use Rattle.tracker_machine.specs.Effect.{applied}
use Rattle.tracker_machine.specs.Effect.Effect.{NewFilter, NoFilter, NewBoard, NoBoard}
use Rattle.tracker_machine.specs.Filters.{number_for, filter_for}
use Rattle.tracker_machine.specs.Boards.{next_board}
use Rattle.tracker_machine.specs.Kept.{part_at, rows_of, parts_of, drops_of, ops_of}
use Rattle.tracker_machine.proofs.WorkedRows.{setup}

-- anna and bo, by their places among the users
abbrev anna : ℕ
anna = 0

abbrev bo : ℕ
bo = 1

abbrev filter_of : ℕ → FilterNo
filter_of n = record { 0 = n }

abbrev board_of : ℕ → BoardNo
board_of n = record { 0 = n }

-- ---- filters

abbrev jql : List ℕ
jql = codes "type = Bug"

abbrev saved : Machine → ℕ → List ℕ → Machine
saved m caller name = applied (NewFilter (filter_for m caller name jql)) m

abbrev dropped : Machine → ℕ → Machine
dropped m n = applied (NoFilter (filter_of n)) m

abbrev new : Machine
new = opening (codes "a setup's text") setup

pub first_number : number_for new anna (codes "a") ≡ filter_of 1
first_number = refl

abbrev one : Machine
one = saved new anna (codes "a")

pub next_number : number_for one anna (codes "b") ≡ filter_of 2
unfolding applied
next_number = refl

abbrev two : Machine
two = saved one anna (codes "b")

-- the number of the one that is dropped is given again
abbrev without_first : Machine
without_first = dropped two 1

pub number_again : number_for without_first anna (codes "c") ≡ filter_of 1
unfolding applied
number_again = refl

abbrev two_again : Machine
two_again = saved without_first anna (codes "c")

-- another user's filter of the same name is another one
pub number_of_another : number_for two_again bo (codes "b") ≡ filter_of 3
unfolding applied
number_of_another = refl

abbrev three : Machine
three = saved two_again bo (codes "b")

-- and the user's own one keeps its number
pub number_kept : number_for three anna (codes "b") ≡ filter_of 2
unfolding applied
number_kept = refl

-- filters stand by their numbers
pub three_filters : three.filters ≡ filter_for without_first anna (codes "c") jql ∷ filter_for one anna (codes "b") jql ∷ filter_for two_again bo (codes "b") jql ∷ []
unfolding applied
three_filters = refl

-- ---- boards

abbrev board : Machine → List ℕ → ℕ → Board
board m name filter_no = record { no = next_board m; name = name; filter = filter_of filter_no }

abbrev made : Machine → List ℕ → ℕ → Machine
made m name filter_no = applied (NewBoard (board m name filter_no)) m

-- the boards 1 and 3 are of filter 2, and board 2 is of filter 3
abbrev boards : Machine
boards = made (made (made three (codes "x") 2) (codes "y") 3) (codes "z") 2

pub next_board_number : next_board boards ≡ board_of 4
unfolding applied
next_board_number = refl

-- the boards of a filter go with it
abbrev others : Machine
others = dropped boards 2

pub others_stay : others.boards ≡ (record { no = board_of 2; name = codes "y"; filter = filter_of 3 }) ∷ []
unfolding applied
others_stay = refl

pub board_number_again : next_board others ≡ board_of 1
unfolding applied
board_number_again = refl

pub last_board_dropped : (applied (NoBoard (board_of 2)) others).boards ≡ []
unfolding applied
last_board_dropped = refl

-- ---- rows

pub row_of_a_filter : rows_of boards 8 3 ≡ Some (codes "{\"jql\":\"type = Bug\",\"name\":\"b\",\"owner\":\"bo\"}")
unfolding applied rows_of part_at body_text filter_data serde_json_on_literals
row_of_a_filter = refl

pub row_of_a_board : rows_of boards 9 3 ≡ Some (codes "{\"filter\":2,\"name\":\"z\"}")
unfolding applied rows_of part_at body_text board_data digits serde_json_on_literals
row_of_a_board = refl

pub operations_of_a_filter : ops_of (NewFilter (filter_for two_again bo (codes "b") jql)) two_again
    ≡ Put (record { kind = 8; no = 3; body = codes "{\"jql\":\"type = Bug\",\"name\":\"b\",\"owner\":\"bo\"}" }) ∷ []
unfolding applied ops_of parts_of body_text filter_data serde_json_on_literals
operations_of_a_filter = refl

pub operations_of_a_board : ops_of (NewBoard (board three (codes "x") 2)) three ≡ Put (record { kind = 9; no = 1; body = codes "{\"filter\":2,\"name\":\"x\"}" }) ∷ []
unfolding applied ops_of parts_of body_text board_data digits serde_json_on_literals
operations_of_a_board = refl

-- a filter's row is dropped with those of its boards
pub operations_of_a_drop : ops_of (NoFilter (filter_of 2)) boards ≡ Drop 8 2 ∷ Drop 9 1 ∷ Drop 9 3 ∷ []
unfolding applied ops_of drops_of
operations_of_a_drop = refl

pub operations_of_a_board_drop : ops_of (NoBoard (board_of 2)) boards ≡ Drop 9 2 ∷ []
unfolding ops_of drops_of
operations_of_a_board_drop = refl

-- after it there are none
pub no_row_of_the_filter : rows_of others 8 2 ≡ None
unfolding applied rows_of part_at
no_row_of_the_filter = refl

pub no_row_of_its_board : rows_of others 9 3 ≡ None
unfolding applied rows_of part_at
no_row_of_its_board = refl

pub row_of_another_board : rows_of others 9 2 ≡ Some (codes "{\"filter\":3,\"name\":\"y\"}")
unfolding applied rows_of part_at body_text board_data digits serde_json_on_literals
row_of_another_board = refl
