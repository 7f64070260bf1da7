use Rattle.std.proofs.Common.{◌≡◌, ◌++◌, drop, map, option_map}
use Rattle.toml.specs.View.{items_view, table_view}
use Rattle.setup_drafts.specs.Written.{all_tables}
use Rattle.setup_drafts.proofs.cell.tables_in.Given as goal

abbrev pub invariant-loop-item : goal.invariant-loop-item
invariant-loop-item l =
    all_tables (items_view l.item-items) ≡ option_map (λ rest. map (λ t. table_view t.now) l.tables.items ++ rest) (all_tables (items_view (drop l.item-index l.item-items)))
