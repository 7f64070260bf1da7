use Rattle.std.proofs.Common.{◌≡◌, drop}
use Rattle.toml.specs.View.{table_view}
use Rattle.setup_places.specs.Lacking.{first_place}
use Rattle.setup_places.proofs.lacking.first_place.Given as goal

abbrev pub invariant-loop-set : goal.invariant-loop-set
invariant-loop-set l =
    first_place l.sets l.key (table_view l.top) ≡ first_place (drop l.set-index l.sets) l.key (table_view l.top)
