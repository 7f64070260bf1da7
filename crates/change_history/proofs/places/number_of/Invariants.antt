use Rattle.std.proofs.Common.{◌≡◌, drop}
use Rattle.change_history.specs.Places.{number_of}
use Rattle.change_history.proofs.places.number_of.Given as goal

abbrev pub invariant-loop-place : goal.invariant-loop-place
invariant-loop-place l = number_of l.places l.field ≡ number_of (drop l.place-index l.places) l.field
