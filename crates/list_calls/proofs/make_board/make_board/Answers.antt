use Rattle.std.proofs.Common.{◌≡◌, ℕ, List, ap, ap₂, sym, ◌∙◌, subst}
use Rattle.field_values.specs.declared.numbers.BoardNo.{BoardNo}
use Rattle.board.specs.declared.board.Board.{Board}
use Rattle.rising_numbers.specs.ByNumber.{free_from}
use Rattle.tracker_calls.specs.declared.reply.Answer.TheVariants as answer
use Rattle.tracker_machine.specs.Machine.{Machine}
use Rattle.tracker_machine.specs.Saved.{board_number, MayMake}
use Rattle.tracker_machine.specs.Effect.{IsAllowed}
use Rattle.tracker_machine.specs.Effect.Effect.{NewBoard}
use Rattle.tracker_machine.specs.Meaning.Meaning.{Makes}
use Rattle.tracker_machine.specs.Kept.{ops_of}
use Rattle.tracker_machine.specs.Boards.{make_board_refusal, next_board}
use Rattle.tracker_state.specs.State.{Held}
use Rattle.list_calls.proofs.Checked.{may_make}
use Rattle.tracker_state.proofs.Checked.{unrefused}
use Rattle.list_calls.proofs.Ops.{board_ops_are}
use Rattle.list_calls.proofs.make_board.make_board.Goals as goal

pub returns-clause-prepared : goal.returns-clause-prepared
unfolding IsAllowed
returns-clause-prepared c =
    let m = c.args.state.now.machine in
    let passed = c.in_ok-check_make.ensures in
    let made = λ (n : BoardNo) (name : List ℕ). Makes (answer.MakeBoard n) (NewBoard (record { no = n; name = name; filter = c.args.filter })) in
    let board : Board = record { no = c.free_number.result; name = c.in_ok-name.name; filter = c.args.filter } in
    let named : c.in_ok-name.name ≡ c.args.name.now = c.in_ok-name.ensures in
    let numbered : c.free_number.result ≡ next_board m = ap (λ (n : ℕ). record { 0 = n }) (c.free_number.ensures ∙ ap (free_from board_number 1) c.boards.ensures.boards) in
    let same : c.reserve_board.new.self.machine ≡ m = ap (λ (s : Held). s.machine) c.reserve_board.ensures.same in
    let may : MayMake m.filters m.boards (record { no = next_board m; name = c.args.name.now; filter = c.args.filter }) =
    may_make m c.args.caller.0 c.args.name.now c.args.filter c.is_tracker.ensures c.requires.title passed in
    record {
      means = unrefused (make_board_refusal m c.args.caller.0 c.args.filter) _ passed ∙ sym (ap₂ made numbered named);
      keeps = c.in_ok-rows.ensures ∙ board_ops_are m board ∙ ap (ops_of (NewBoard board)) (sym same);
      allowed = subst (λ (n : Machine). MayMake n.filters n.boards board) (sym same)
          (subst (λ (n : BoardNo). MayMake m.filters m.boards (record { no = n; name = c.in_ok-name.name; filter = c.args.filter })) (sym numbered)
          (subst (λ (name : List ℕ). MayMake m.filters m.boards (record { no = next_board m; name = name; filter = c.args.filter })) (sym named) may));
      fits = c.in_ok-reserve_board.ensures.room;
    }
