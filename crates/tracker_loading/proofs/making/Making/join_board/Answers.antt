use Rattle.std.proofs.Common.{◌≡◌, List, is_some, ap, sym, subst, ◌∙◌, arith}
use Rattle.rising_numbers.specs.ByNumber.{by_number, put_by_number}
use Rattle.board.specs.declared.board.Board.{Board}
use Rattle.tracker_boards.specs.Boards.{BoardList}
use Rattle.tracker_filters.specs.declared.filter.Filter.{Filter}
use Rattle.tracker_filters.specs.Saved.{number}
use Rattle.tracker_machine.specs.Machine.{Machine}
use Rattle.tracker_machine.specs.Effect.{with_board}
use Rattle.tracker_machine.specs.Saved.{board_number}
use Rattle.tracker_rows.specs.Rules.{MayBeBoard}
use Rattle.tracker_state.proofs.Watching.{missed_in_both}
use Rattle.tracker_loading.specs.contracts.making.Making.{the_view}
use Rattle.tracker_loading.proofs.Saved.{none_of, saved_there}
use Rattle.tracker_loading.proofs.making.Making.join_board.Goals as goal

pub returns-then-not-has_filter-clause-bad : goal.returns-then-not-has_filter-clause-bad
returns-then-not-has_filter-clause-bad c =
    let filters = c.self.inside.filters.items in
    let n = c.args.board.filter.0 in
    λ is may.
    let here : MayBeBoard (the_view c.self.inside) c.args.board = subst (λ (m : Machine). MayBeBoard m c.args.board) (sym c.self.view_is) may in
    here.there (missed_in_both n filters (none_of (by_number number n filters)
    (ap (λ (fs : List Filter). is_some (by_number number n fs)) (sym c.deref.ensures.value) ∙ sym c.has_filter.ensures ∙ c.if-not-has_filter.true)))

pub returns-clause-good : goal.returns-clause-good
returns-clause-good c =
    let m : Machine = the_view c.self.inside in
    let board = c.args.board in
    let filters = c.self.inside.filters.items in
    let n = board.filter.0 in
    let boards : c.put.new.self.boards ≡ put_by_number board_number board c.self.inside.boards.boards =
    ap (λ (b : BoardList). b.boards) c.put.ensures ∙ ap (λ (b : BoardList). put_by_number board_number board b.boards) c.reserve.ensures.same in
    let may : MayBeBoard m board = record {
      few = omega (arith, c.len.ensures);
      there = saved_there n filters
          (ap (λ (fs : List Filter). is_some (by_number number n fs)) (sym c.deref.ensures.value) ∙ sym c.has_filter.ensures ∙ c.if-not-has_filter.false);
    } in
    λ is. (
      subst (λ (o : Machine). MayBeBoard o board) c.self.view_is may,
      ap (λ (bs : List Board). record m { boards = bs }) boards ∙ ap (λ (o : Machine). with_board o board) c.self.view_is,
    )
