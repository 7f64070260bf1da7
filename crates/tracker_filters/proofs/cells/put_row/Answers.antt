use Rattle.std.proofs.Common.{◌≡◌, false, nat_eq, sym, subst}
use Rattle.std.specs.List.{list_any}
use Rattle.tracker_filters.specs.Saved.{number}
use Rattle.rising_numbers.proofs.Listed.{is_unlisted}
use Rattle.tracker_filters.proofs.Shapes.{rows_put_new, rows_put_again}
use Rattle.tracker_filters.proofs.cells.put_row.Goals as goal

pub add_filter-requires-clause-fresh : goal.add_filter-requires-clause-fresh
add_filter-requires-clause-fresh c =
    subst (λ ns. list_any (nat_eq c.args.filter.no.0) ns ≡ false) (sym c.requires.rows) (is_unlisted number c.args.filter.no.0 _ c.if-put_in.ensures.new)

pub returns-then-put_in-clause-rows : goal.returns-then-put_in-clause-rows
returns-then-put_in-clause-rows c = rows_put_new _ c.args.filter c.args.views.now c.add_filter.new.self c.if-put_in.ensures.new c.add_filter.ensures c.requires.rows

pub returns-else-put_in-clause-rows : goal.returns-else-put_in-clause-rows
returns-else-put_in-clause-rows c = rows_put_again _ c.args.filter c.args.views.now c.requires.rising c.if-put_in.ensures.new c.requires.rows
