use Rattle.std.proofs.Common.{◌≢◌, None, sym, subst}
use Rattle.rising_numbers.specs.ByNumber.{by_number}
use Rattle.tracker_boards.specs.Boards.{BoardList}
use Rattle.tracker_machine.specs.Machine.{Machine}
use Rattle.tracker_machine.specs.Effect.{applied, IsAllowed}
use Rattle.tracker_machine.specs.Effect.Effect.{NoBoard}
use Rattle.tracker_machine.specs.Saved.{board_number}
use Rattle.tracker_machine.proofs.Tracker.{tracker_applied}
use Rattle.tracker_state.specs.State.{Held, IsState}
use Rattle.tracker_state.specs.contracts.state.State.{the_view}
use Rattle.tracker_state.proofs.state.State.drop_board.Goals as goal

pub invariant_of-self : goal.invariant_of-self
unfolding applied IsAllowed
invariant_of-self c =
    let m : Machine = (the_view c.self.inside).machine in
    let no = c.args.no in
    let is = c.self.invariant in
    let there : by_number board_number no.0 m.boards ≢ None = subst (λ (s : Held). by_number board_number no.0 s.machine.boards ≢ None) (sym c.self.view_is) c.requires in
    subst (λ (bs : BoardList). IsState (record m { boards = bs.boards }) c.self.inside.issues.tally c.self.inside.filters c.self.inside.work c.self.inside.setting.context) (sym c.remove.ensures)
    (record {
      counted = is.counted;
      few_changes = is.few_changes;
      tracker = tracker_applied (NoBoard no) m there is.tracker;
      seen = record { histories = is.seen.histories; around = is.seen.around; moment = is.seen.moment };
      bound = is.bound;
      worked = is.worked;
      around = is.around;
    })
