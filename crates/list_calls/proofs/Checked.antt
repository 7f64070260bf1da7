-- What passes its checks may come.
use Rattle.std.proofs.Common.{◌≡◌, ℕ, List, true, length, None, arith}
use Rattle.field_values.specs.declared.numbers.FilterNo.{FilterNo}
use Rattle.field_values.specs.declared.rules.Permission.TheVariants as permission
use Rattle.field_forms.specs.Names.{is_title}
use Rattle.rising_numbers.proofs.Free.{free_above, free_below, least_free}
use Rattle.tracker_limits.specs.Limits.{most_boards}
use Rattle.tracker_calls.specs.declared.cause.Cause.TheVariants as cause
use Rattle.tracker_calls.specs.declared.cause.Limit.TheVariants as limit
use Rattle.tracker_machine.specs.Machine.{Machine}
use Rattle.tracker_machine.specs.Saved.{board_number, MayMake}
use Rattle.tracker_machine.specs.Checks.{or_then, permission_refusal}
use Rattle.tracker_machine.specs.Tracker.{IsTracker}
use Rattle.tracker_machine.specs.Filters.{filter_numbered, unless_filter}
use Rattle.tracker_machine.specs.Boards.{boards_refusal, make_board_refusal, next_board}
use Rattle.tracker_state.proofs.Checked.{known_there, later_passes, few_passes}

-- a new board may come
pub may_make : (m : Machine) (caller : ℕ) (name : List ℕ) (filter_no : FilterNo) → IsTracker m → is_title name ≡ true → make_board_refusal m caller filter_no ≡ None
    → MayMake m.filters m.boards (record { no = next_board m; name = name; filter = filter_no })
may_make m caller name filter_no is titled passed =
    let rest = later_passes (unless_filter m filter_no) (or_then (permission_refusal m caller permission.Plan None) (boards_refusal m)) passed in
    let few = few_passes (length m.boards) most_boards (cause.Limit limit.Boards) (later_passes (permission_refusal m caller permission.Plan None) (boards_refusal m) rest) in
    let least = free_above board_number 1 m.boards in
    let most = free_below board_number 1 m.boards in
    record {
      positive = omega (arith, least);
      board = record {
        small = omega (arith, most, few);
        named = titled;
        there = known_there (filter_numbered m filter_no) _ _ passed;
      };
      free = (least_free board_number 1 m.boards is.saved.rising_boards).free;
      few = few;
    }
