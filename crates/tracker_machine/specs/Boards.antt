-- The calls `make_board`, `drop_board` and `board`: a saved filter's issues in the order of ranks, status by status.
use Rattle.std.specs.Prelude.{ℕ, ◌+◌, ◌==◌, Bool, false, List, [], ◌∷◌, map, filter, length, decimal, nat_lt, Option, Some, None}
use Rattle.std.specs.Option.{option_map_or}
use Rattle.std.specs.Ordering.{is_lt}
use Rattle.rising_numbers.specs.ByNumber.{by_number, free_from}
use Rattle.field_values.specs.declared.numbers.BoardNo.{BoardNo}
use Rattle.field_values.specs.declared.numbers.FilterNo.{FilterNo}
use Rattle.field_values.specs.declared.numbers.TheConstants.FieldNo as number
use Rattle.field_values.specs.declared.rules.Permission.TheVariants as permission
use Rattle.field_values.specs.declared.status.Status.{Status}
use Rattle.field_values.specs.declared.value.Value.{Value}
use Rattle.field_values.specs.declared.value.Value.TheVariants.{Choice}
use Rattle.tracker_limits.specs.Limits.{most_boards}
use Rattle.change_history.specs.History.{History, present}
use Rattle.board.specs.Order.{Pair}
use Rattle.board.specs.declared.board.Board.{Board}
use Rattle.tracker_calls.specs.Part.{part_of}
use Rattle.tracker_calls.specs.declared.call.Part.{Part}
use Rattle.tracker_calls.specs.declared.reply.Answer.{Answer}
use Rattle.tracker_calls.specs.declared.reply.Answer.TheVariants as answer
use Rattle.tracker_calls.specs.declared.reply.Column.{Column}
use Rattle.tracker_calls.specs.declared.cause.Limit.TheVariants as limit
use Rattle.tracker_calls.specs.declared.cause.Cause.{Cause}
use Rattle.tracker_calls.specs.declared.cause.Cause.TheVariants as cause
use Rattle.tracker_calls.specs.declared.cause.Thing.TheVariants as thing
use Rattle.tracker_machine.specs.Machine.{Machine}
use Rattle.tracker_machine.specs.Saved.{board_number}
use Rattle.tracker_machine.specs.Checks.{or_then, unless_known, only_if, permission_refusal}
use Rattle.tracker_machine.specs.Effect.Effect.{NewBoard, NoBoard}
use Rattle.tracker_machine.specs.Listing.{in_order}
use Rattle.tracker_machine.specs.Search.{ranks_cmp}
use Rattle.tracker_machine.specs.Filters.{filter_numbered, unless_filter, shown}
use Rattle.tracker_machine.specs.Meaning.{Meaning, unless}
use Rattle.tracker_machine.specs.Meaning.Meaning.{Refuses, Tells, Makes}

-- the board of a number, if there is one
abbrev pub board_numbered : Machine → BoardNo → Option Board
board_numbered m board_no = by_number board_number board_no.0 m.boards

-- it has to be there
abbrev pub unless_board : Machine → BoardNo → Option Cause
unless_board m board_no =
    unless_known (board_numbered m board_no) (cause.Unknown thing.Board (decimal board_no.0))

-- ---- make_board

-- there is room for one more board
abbrev pub boards_refusal : Machine → Option Cause
boards_refusal m = only_if (nat_lt (length m.boards) most_boards) (cause.Limit limit.Boards)

abbrev pub make_board_refusal : Machine → ℕ → FilterNo → Option Cause
make_board_refusal m caller filter =
    or_then (unless_filter m filter)
    (or_then (permission_refusal m caller permission.Plan None)
    (boards_refusal m))

-- the least number that no board has
abbrev pub next_board : Machine → BoardNo
next_board m = record { 0 = free_from board_number 1 m.boards }

abbrev pub made_board : Machine → List ℕ → FilterNo → Meaning
made_board m name filter =
    Makes (answer.MakeBoard (next_board m))
    (NewBoard (record { no = next_board m; name = name; filter = filter }))

abbrev pub make_board_meaning : Machine → ℕ → List ℕ → FilterNo → Meaning
make_board_meaning m caller name filter =
    unless (make_board_refusal m caller filter) (made_board m name filter)

-- ---- drop_board

abbrev pub drop_board_refusal : Machine → ℕ → BoardNo → Option Cause
drop_board_refusal m caller board_no =
    or_then (unless_board m board_no) (permission_refusal m caller permission.Plan None)

abbrev pub drop_board_meaning : Machine → ℕ → BoardNo → Meaning
drop_board_meaning m caller board_no =
    unless (drop_board_refusal m caller board_no)
    (Makes (answer.DropBoard board_no) (NoBoard board_no))

-- ---- board

-- issues in the order of ranks
unfoldable pub by_rank : List Pair → List History → List History
by_rank order histories = in_order (λ one other. is_lt (ranks_cmp order one other)) histories

-- what the caller finds by the board's filter, which is always there
abbrev pub board_issues : Machine → ℕ → Board → List History
board_issues m caller b = option_map_or (shown m caller) (filter_numbered m b.filter) []

abbrev pub is_choice : ℕ → Value → Bool
is_choice n (Choice choice) = choice.0 == n
is_choice n v = false

-- the issue has the status at a place
abbrev pub has_status : ℕ → History → Bool
has_status place h = is_choice place (present h number.STATUS)

-- the keys of the issues of the status at a place, under its name
abbrev pub column_of : List History → ℕ → Status → Column
column_of histories place status =
    record { issues = map (λ h. h.key) (filter (has_status place) histories); status = status.name }

-- a column for each status, in the setup's order
abbrev pub columns_from : ℕ → List Status → List History → List Column
columns_from place [] histories = []
columns_from place (status ∷ more) histories =
    column_of histories place status ∷ columns_from (place + 1) more histories

-- the part that is asked for is cut before it goes into columns
abbrev pub board_answer : Machine → ℕ → Part → Board → Answer
board_answer m caller part b =
    answer.Board (columns_from 0 m.setup.status
    (part_of part (by_rank m.order (board_issues m caller b)))) (length (board_issues m caller b))

abbrev pub board_told : Machine → ℕ → BoardNo → Part → Option Board → Meaning
board_told m caller board_no part None = Refuses (cause.Unknown thing.Board (decimal board_no.0))
board_told m caller board_no part (Some b) = Tells (board_answer m caller part b)

unfoldable pub board_meaning : Machine → ℕ → BoardNo → Part → Meaning
board_meaning m caller board_no part = board_told m caller board_no part (board_numbered m board_no)
