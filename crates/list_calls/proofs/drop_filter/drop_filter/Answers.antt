use Rattle.std.proofs.Common.{◌∷◌, List, ap, ◌∙◌}
use Rattle.board.specs.declared.board.Board.{Board}
use Rattle.tracker_keeper.specs.declared.row.RowOp.TheVariants.{Drop}
use Rattle.tracker_machine.specs.Effect.{IsAllowed}
use Rattle.tracker_machine.specs.Kept.{board_drops}
use Rattle.tracker_machine.specs.Filters.{filter_numbered, drop_filter_refusal}
use Rattle.tracker_state.proofs.Checked.{known_there, unrefused}
use Rattle.list_calls.proofs.Ops.{drop_filter_ops_are}
use Rattle.list_calls.proofs.drop_filter.drop_filter.Goals as goal

pub returns : goal.returns
unfolding IsAllowed
returns c =
    let m = c.args.state.now.machine in
    let passed = c.in_ok-check_drop.ensures in
    record {
      means = unrefused (drop_filter_refusal m c.args.caller.0 c.args.no) _ passed;
      keeps = c.in_ok-rows.ensures
          ∙ ap (λ (bs : List Board). Drop 8 c.args.no.0 ∷ board_drops c.args.no bs) (c.as_slice.ensures.boards ∙ c.boards.ensures.boards)
          ∙ drop_filter_ops_are m c.args.no;
      allowed = known_there (filter_numbered m c.args.no) _ _ passed;
      fits = tt;
    }
