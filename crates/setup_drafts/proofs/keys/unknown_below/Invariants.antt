use Rattle.std.proofs.Common.{◌≡◌, drop, map, option_map}
use Rattle.toml.specs.View.{table_view}
use Rattle.setup_drafts.specs.Keys.{unknown_below}
use Rattle.setup_drafts.proofs.keys.unknown_below.Given as goal

abbrev pub invariant-loop-table : goal.invariant-loop-table
invariant-loop-table l =
    unknown_below l.set (option_map (λ key. key.now) l.fn.found) (map (λ t. table_view t.now) l.tables)
    ≡ unknown_below l.set (option_map (λ key. key.now) l.first) (map (λ t. table_view t.now) (drop l.table-index l.tables))
