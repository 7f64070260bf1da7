use Rattle.board.specs.Table.{ArePlacesTo}
use Rattle.board.proofs.order.set_places.Given as goal

-- as far as the walk has come
abbrev pub invariant-loop-place : goal.invariant-loop-place
invariant-loop-place l = ArePlacesTo l.issues l.place l.initial.places l.places
