use Rattle.std.proofs.Common.{◌≡◌, ◌∙◌, subst, arith}
use Rattle.std.proofs.lemmas.List.{get_or_default}
use Rattle.filter_views.specs.Due.{due_at, no_due}
use Rattle.filter_views.specs.FilterRow.{PutsPlace}
use Rattle.filter_views.proofs.Moves.{cell_of_entry, cell_framed, rising_framed, agree_swapped, only_moves_swapped}
use Rattle.filter_views.proofs.heap.exchange.Goals as goal

pub set_place-requires-clause-there : goal.set_place-requires-clause-there
set_place-requires-clause-there c =
    let es = c.swap.new.self in
    let read : c.index-heap-first.result ≡ due_at es c.args.first = c.index-heap-first.is ∙ get_or_default es c.args.first _ no_due (omega (arith, c.swap.ensures.len, c.requires.first)) in
    cell_of_entry c.args.heap.now c.args.rows.now c.requires.agree c.args.second c.requires.second _ (read ∙ c.swap.ensures.by_index.0 no_due)

pub set_place-requires-2-clause-rising : goal.set_place-requires-2-clause-rising
set_place-requires-2-clause-rising c = rising_framed c.args.rows.now c.set_place.new.rows c.set_place.ensures.same c.requires.agree.rising

pub set_place-requires-2-clause-there : goal.set_place-requires-2-clause-there
set_place-requires-2-clause-there c =
    let es = c.swap.new.self in
    let read : c.index-heap-second.result ≡ due_at es c.args.second = c.index-heap-second.is ∙ get_or_default es c.args.second _ no_due (omega (arith, c.swap.ensures.len, c.requires.second)) in
    cell_framed c.args.rows.now c.set_place.new.rows c.set_place.ensures.same _ _
    (cell_of_entry c.args.heap.now c.args.rows.now c.requires.agree c.args.first c.requires.first _ (read ∙ c.swap.ensures.by_index.1 no_due))

pub returns-clause-agree : goal.returns-clause-agree
returns-clause-agree c =
    let es = c.swap.new.self in
    let low : c.index-heap-first.result ≡ due_at es c.args.first = c.index-heap-first.is ∙ get_or_default es c.args.first _ no_due (omega (arith, c.swap.ensures.len, c.requires.first)) in
    let high : c.index-heap-second.result ≡ due_at es c.args.second = c.index-heap-second.is ∙ get_or_default es c.args.second _ no_due (omega (arith, c.swap.ensures.len, c.requires.second)) in
    agree_swapped c.args.heap.now es c.args.rows.now c.set_place.new.rows c.set_place-2.new.rows c.args.first c.args.second c.requires.first c.requires.second c.requires.differ c.requires.agree c.swap.ensures.by_index c.swap.ensures.len
    (subst (λ d. PutsPlace c.args.rows.now c.set_place.new.rows d.filter.0 d.issue.0 c.args.first) low c.set_place.ensures)
    (subst (λ d. PutsPlace c.set_place.new.rows c.set_place-2.new.rows d.filter.0 d.issue.0 c.args.second) high c.set_place-2.ensures)

pub returns-clause-same : goal.returns-clause-same
returns-clause-same c =
    let es = c.swap.new.self in
    let low : c.index-heap-first.result ≡ due_at es c.args.first = c.index-heap-first.is ∙ get_or_default es c.args.first _ no_due (omega (arith, c.swap.ensures.len, c.requires.first)) in
    let high : c.index-heap-second.result ≡ due_at es c.args.second = c.index-heap-second.is ∙ get_or_default es c.args.second _ no_due (omega (arith, c.swap.ensures.len, c.requires.second)) in
    only_moves_swapped c.args.heap.now es c.args.rows.now c.set_place.new.rows c.set_place-2.new.rows c.args.first c.args.second c.requires.first c.requires.second c.requires.differ c.requires.agree c.swap.ensures.by_index c.swap.ensures.len
    (subst (λ d. PutsPlace c.args.rows.now c.set_place.new.rows d.filter.0 d.issue.0 c.args.first) low c.set_place.ensures)
    (subst (λ d. PutsPlace c.set_place.new.rows c.set_place-2.new.rows d.filter.0 d.issue.0 c.args.second) high c.set_place-2.ensures)
