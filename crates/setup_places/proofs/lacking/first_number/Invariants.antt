use Rattle.std.proofs.Common.{◌≡◌, ◌+◌, drop}
use Rattle.toml.specs.View.{items_view}
use Rattle.setup_places.specs.Lacking.{first_from}
use Rattle.setup_places.proofs.lacking.first_number.Given as goal

abbrev pub invariant-loop-item : goal.invariant-loop-item
invariant-loop-item l =
    (l.before ≡ l.item-index)
    × (first_from l.set l.key 1 (items_view l.items)
    ≡ first_from l.set l.key (l.item-index + 1) (items_view (drop l.item-index l.items)))
