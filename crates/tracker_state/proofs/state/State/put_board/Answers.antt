use Rattle.std.proofs.Common.{sym, subst}
use Rattle.tracker_boards.specs.Boards.{BoardList}
use Rattle.tracker_machine.specs.Machine.{Machine}
use Rattle.tracker_machine.specs.Effect.{applied, IsAllowed}
use Rattle.tracker_machine.specs.Effect.Effect.{NewBoard}
use Rattle.tracker_machine.specs.Saved.{MayMake}
use Rattle.tracker_machine.proofs.Tracker.{tracker_applied}
use Rattle.tracker_state.specs.State.{Held, IsState}
use Rattle.tracker_state.specs.contracts.state.State.{the_view}
use Rattle.tracker_state.proofs.state.State.put_board.Goals as goal

pub invariant_of-self : goal.invariant_of-self
unfolding applied IsAllowed
invariant_of-self c =
    let m : Machine = (the_view c.self.inside).machine in
    let board = c.args.board in
    let is = c.self.invariant in
    let may : MayMake m.filters m.boards board = subst (λ (s : Held). MayMake s.machine.filters s.machine.boards board) (sym c.self.view_is) c.requires.allowed in
    subst (λ (bs : BoardList). IsState (record m { boards = bs.boards }) c.self.inside.issues.tally c.self.inside.filters c.self.inside.work c.self.inside.setting.context) (sym c.put.ensures)
    (record {
      counted = is.counted;
      few_changes = is.few_changes;
      tracker = tracker_applied (NewBoard board) m may is.tracker;
      seen = record { histories = is.seen.histories; around = is.seen.around; moment = is.seen.moment };
      bound = is.bound;
      worked = is.worked;
      around = is.around;
    })
