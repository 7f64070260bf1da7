use Rattle.std.proofs.Common.{◌∙◌}
use Rattle.tracker_machine.specs.Effect.{IsAllowed}
use Rattle.tracker_machine.specs.Boards.{board_numbered, drop_board_refusal}
use Rattle.tracker_state.proofs.Checked.{known_there, unrefused}
use Rattle.list_calls.proofs.Ops.{drop_board_ops_are}
use Rattle.list_calls.proofs.drop_board.drop_board.Goals as goal

pub returns : goal.returns
unfolding IsAllowed
returns c =
    let m = c.args.state.now.machine in
    let passed = c.in_ok-check_drop.ensures in
    record {
      means = unrefused (drop_board_refusal m c.args.caller.0 c.args.no) _ passed;
      keeps = c.in_ok-rows.ensures ∙ drop_board_ops_are m c.args.no;
      allowed = known_there (board_numbered m c.args.no) _ _ passed;
      fits = tt;
    }
